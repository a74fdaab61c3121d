-- Record data that is made part by part, which is this project's own choice; what a part can be is
-- RFC 1035 3.3.
use Rattle.std.specs.Prelude.{◌≡◌, ℕ, zero, ◌<◌, ◌≤◌, List, [], ◌∷◌, ◌++◌, length, slice_get, Bool, false, if◌then◌else◌, ⊤, Option, Some, None}
use Rattle.std.specs.Option.{option_or}
use Rattle.zone_rdata.specs.declared.fault.Fault.{Fault}
use Rattle.zone_rdata.specs.declared.fault.Fault.TheVariants.{BadRdata, StringTooLong, RdataTooLong}
use Rattle.zone_rdata.specs.declared.field.Field.{Field}
use Rattle.zone_rdata.specs.declared.field.Field.TheVariants.{Strings}
use Rattle.zone_rdata.specs.Field.{FieldValue, fixed, string, Suits, is_strings, octets_of}
use Rattle.zone_rdata.specs.Layout.{layout}
use Rattle.zone_rdata.specs.Limits.{longest_data}

-- Class, type and the parts that were pushed, one for each call: a value for each field in order,
-- each of several strings by itself, and the octets of opaque data as one part
pub record Built : Type 0 where
  pub class : ℕ
  pub kind : ℕ
  pub parts : List FieldValue

abbrev pub ends_with_strings : List Field → Bool
ends_with_strings [] = false
ends_with_strings (f ∷ []) = is_strings f
ends_with_strings (f ∷ g ∷ fields) = ends_with_strings (g ∷ fields)

-- the field of the part after i parts: one more field of strings after the layout's, where strings
-- stand last in it
abbrev pub part_at : List Field → ℕ → Option Field
part_at fields i =
    option_or (slice_get fields i) (if ends_with_strings fields then Some Strings else None)

-- opaque data is one part of octets
abbrev pub IsOpaque : ℕ → FieldValue → Type 0
IsOpaque zero (fixed octets) = ⊤
IsOpaque count part = ⊥

-- the part can be the next after so many
abbrev pub IsNext : Option (List Field) → ℕ → FieldValue → Type 0
IsNext None count part = IsOpaque count part
IsNext (Some fields) count part = Suits (part_at fields count) part

-- a string has at most 255 octets
abbrev pub FitsString : FieldValue → Type 0
FitsString (string octets) = length octets ≤ 255
FitsString part = ⊤

-- the part is added after the others
pub record Pushes (old : Built) (part : FieldValue) (new : Built) : Type 0 where
  pub next : IsNext (layout old.class old.kind) (length old.parts) part
  pub string_fits : FitsString part
  pub fits : length (octets_of (old.parts ++ part ∷ [])) ≤ longest_data
  pub made : new ≡ record old { parts = old.parts ++ part ∷ [] }

-- The first fault of a push: the part isn't the next, a string is too long, or all is too long
pub data IsPushFault (b : Built) (part : FieldValue) : Fault → Type 0 where
  misplaced : (IsNext (layout b.class b.kind) (length b.parts) part → ⊥)
      → IsPushFault b part BadRdata
  long_string : IsNext (layout b.class b.kind) (length b.parts) part → (FitsString part → ⊥)
      → IsPushFault b part StringTooLong
  too_long : IsNext (layout b.class b.kind) (length b.parts) part → FitsString part
      → longest_data < length (octets_of (b.parts ++ part ∷ [])) → IsPushFault b part RdataTooLong

-- nothing is missing: a part for each field, strings at least one; opaque data its one part
abbrev pub IsWhole : Option (List Field) → List FieldValue → Type 0
IsWhole None parts = 0 < length parts
IsWhole (Some fields) parts = length fields ≤ length parts
