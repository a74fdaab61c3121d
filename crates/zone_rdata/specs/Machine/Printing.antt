-- How data is printed field by field, and the fields at the beginning of octets.
use Rattle.std.specs.Prelude.{◌≡◌, ℕ, zero, suc, take, drop, List, [], ◌∷◌, ◌++◌, length, map, codes, decimal, Option, Some, None}
use Rattle.std.specs.List.{join_with_byte}
use Rattle.zone_rdata.specs.declared.field.Field.{Field}
use Rattle.zone_rdata.specs.Field.{Holds, field_at, field_octets, field_text, values_of}
use Rattle.zone_rdata.specs.Text.{generic_text}

-- the generic form before its digits
abbrev pub generic_head : List ℕ → List ℕ
generic_head [] = codes "\\# 0"
generic_head (c ∷ octets) = codes "\\# " ++ decimal (length (c ∷ octets)) ++ 32 ∷ []

-- the texts of the fields parted by single spaces, and opaque octets in the generic form
abbrev pub laid_out_text : Option (List Field) → List ℕ → List ℕ
laid_out_text None octets = generic_text octets
laid_out_text (Some fields) octets = join_with_byte 32 (map field_text (values_of fields octets))

-- octets that begin with a value of the field
pub record BeginsWithField (field : Field) (octets : List ℕ) : Type 0 where
  pub held : Holds field (field_at field octets)
  pub front : take (length (field_octets (field_at field octets))) octets
      ≡ field_octets (field_at field octets)

-- the octets after the field at their front
abbrev pub after_field : Field → List ℕ → List ℕ
after_field field octets = drop (length (field_octets (field_at field octets))) octets

-- a text with a space before it, but for the first
abbrev pub spaced : ℕ → List ℕ → List ℕ
spaced zero text = text
spaced (suc i) text = 32 ∷ text
