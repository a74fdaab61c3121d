-- The layouts of record data by class and type (RFC 1035 3.3), and the data that a record can have.
use Rattle.std.specs.Prelude.{◌≡◌, ◌≢◌, ℕ, ◌≤◌, List, [], ◌∷◌, length, ◌==◌, if◌then◌else◌, Option, Some, None, MatchOption, ⊤, ◌⊎◌}
use Rattle.std.specs.List.{AllByRecursion, AllZip, find}
use Rattle.zone_name.specs.Common.{AreOctets}
use Rattle.zone_rdata.specs.declared.field.Field.{Field}
use Rattle.zone_rdata.specs.declared.field.Field.TheVariants.{Octets, Strings}
use Rattle.zone_rdata.specs.declared.layout.Layout.{Layout}
use Rattle.zone_rdata.specs.Field.{Holds, values_of, octets_of}
use Rattle.zone_rdata.specs.Table.{NamedType, in_every, in_one, named, types, in_class}
use Rattle.zone_rdata.specs.Limits.{longest_data}

-- the fields of a layout, in order
abbrev pub fields_of : Layout → List Field
fields_of l = l.fields.now

-- the fields of a row in a class
abbrev pub fields_in : ℕ → Option NamedType → Option (List Field)
fields_in class None = None
fields_in class (Some (in_every number mnemonic fields)) = Some fields
fields_in class (Some (in_one number mnemonic fields)) =
    if class == in_class then Some fields else None

-- the layout of a type in a class, if it has one
abbrev pub layout : ℕ → ℕ → Option (List Field)
layout class kind = fields_in class (find (λ row. kind == (named row).number) types)

-- strings, which take all that is left, are no field but the last
abbrev pub StringsLast : List Field → Type 0
StringsLast [] = ⊤
StringsLast (f ∷ []) = ⊤
StringsLast (f ∷ g ∷ fields) = (f ≢ Strings) × StringsLast (g ∷ fields)

-- octets of a fixed number are an address: 4 or 16
abbrev pub IsSized : Field → Type 0
IsSized (Octets n) = (n ≡ 4) ⊎ (n ≡ 16)
IsSized field = ⊤

-- what every layout of the table is
pub record IsLayout (fields : List Field) : Type 0 where
  pub few : length fields ≤ 7
  pub last : StringsLast fields
  pub sized : AllByRecursion IsSized fields

-- octets that are exactly one value of a layout, its names uncompressed and in lower case
pub record AreLaidOut (fields : List Field) (octets : List ℕ) : Type 0 where
  pub held : AllZip Holds fields (values_of fields octets)
  pub whole : octets_of (values_of fields octets) ≡ octets

-- the canonical octets of record data: one value of the layout, or opaque octets where there is
-- none
pub record IsData (class kind : ℕ) (octets : List ℕ) : Type 0 where
  pub short : length octets ≤ longest_data
  pub each : AreOctets octets
  pub value : MatchOption (layout class kind) (Unit {0}) (λ fields. AreLaidOut fields octets)
