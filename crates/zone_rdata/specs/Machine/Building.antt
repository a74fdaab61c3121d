-- How the builder keeps its parts.
use Rattle.std.specs.Prelude.{◌≡◌, ℕ, zero, suc, ◌+◌, ◌^◌, ◌<◌, ◌≤◌, List, [], ◌∷◌, ◌++◌, length, ⊤, Option, Some, None}
use Rattle.zone_name.specs.Common.{AreOctets}
use Rattle.zone_name.specs.Name.{IsName}
use Rattle.zone_rdata.specs.declared.fault.Fault.{Fault}
use Rattle.zone_rdata.specs.declared.fault.Fault.TheVariants.{StringTooLong, RdataTooLong}
use Rattle.zone_rdata.specs.declared.field.Field.{Field}
use Rattle.zone_rdata.specs.declared.field.Field.TheVariants.{OneString, Strings}
use Rattle.zone_rdata.specs.Field.{FieldValue, name, u32_value, u16_value, fixed, string, field_octets, values_of}
use Rattle.zone_rdata.specs.Layout.{AreLaidOut, layout}
use Rattle.zone_rdata.specs.Words.{IsClass, IsKind}
use Rattle.zone_rdata.specs.Builder.{FitsString}
use Rattle.zone_rdata.specs.Limits.{longest_data}

-- each of several strings is one string
abbrev pub part_field : Field → Field
part_field Strings = OneString
part_field field = field

-- n more fields of strings after a last field of strings
abbrev pub more_fields : Field → ℕ → List Field
more_fields Strings zero = []
more_fields Strings (suc n) = OneString ∷ more_fields Strings n
more_fields field n = []

-- the fields of the first n parts
abbrev pub part_fields : List Field → ℕ → List Field
part_fields fields zero = []
part_fields [] (suc n) = []
part_fields (f ∷ []) (suc n) = part_field f ∷ more_fields f n
part_fields (f ∷ g ∷ fields) (suc n) = part_field f ∷ part_fields (g ∷ fields) n

-- the parts that octets hold
abbrev pub parts_held : Option (List Field) → ℕ → List ℕ → List FieldValue
parts_held None zero octets = []
parts_held None (suc n) octets = fixed octets ∷ []
parts_held (Some fields) n octets = values_of (part_fields fields n) octets

-- the octets are those of so many parts
abbrev pub ArePushedParts : Option (List Field) → ℕ → List ℕ → Type 0
ArePushedParts None zero octets = octets ≡ []
ArePushedParts None (suc n) octets = n ≡ 0
ArePushedParts (Some fields) n octets =
    (length (part_fields fields n) ≡ n) × AreLaidOut (part_fields fields n) octets

-- what the builder holds: the layout is the one of the class and type
pub record IsBuilt (class kind : ℕ) (laid : Option (List Field)) (count : ℕ)
    (octets : List ℕ) : Type 0 where
  pub is_class : IsClass class
  pub is_kind : IsKind kind
  pub looked_up : laid ≡ layout class kind
  pub short : length octets ≤ longest_data
  pub few : count ≤ length octets + 1
  pub held : ArePushedParts (layout class kind) count octets

-- a value that a part can be
abbrev pub IsReal : FieldValue → Type 0
IsReal (name labels) = IsName labels
IsReal (u32_value n) = n < 2 ^ 32
IsReal (u16_value n) = n < 2 ^ 16
IsReal (fixed octets) = AreOctets octets
IsReal (string octets) = AreOctets octets
IsReal part = ⊤

-- why a part can't be added after octets
pub data IsOver (octets : List ℕ) (part : FieldValue) : Fault → Type 0 where
  over_string : (FitsString part → ⊥) → IsOver octets part StringTooLong
  over_data : FitsString part → longest_data < length octets + length (field_octets part)
      → IsOver octets part RdataTooLong

pub record Grows (octets : List ℕ) (part : FieldValue) (new : List ℕ) : Type 0 where
  pub string_fits : FitsString part
  pub fits : length octets + length (field_octets part) ≤ longest_data
  pub written : new ≡ octets ++ field_octets part

-- the fewest parts that are whole
abbrev pub least_of : Option (List Field) → ℕ
least_of None = 1
least_of (Some fields) = length fields
