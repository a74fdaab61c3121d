-- Uncompressed octets of record data, as a message can have them: names in any letter case (RFC
-- 1035 3.3; RFC 4343 3).
use Rattle.std.specs.Prelude.{◌≡◌, ℕ, List, [], ◌∷◌, ◌++◌}
use Rattle.std.specs.List.{AllZip}
use Rattle.zone_rdata.specs.declared.field.Field.{Field}
use Rattle.zone_rdata.specs.Field.{FieldValue, Holds, IsSent, octets_of}

-- the octets of values, one after another
abbrev pub AreSent : List FieldValue → List ℕ → Type 0
AreSent [] octets = octets ≡ []
AreSent (v ∷ values) octets =
    (front rest : List ℕ) × IsSent v front × (octets ≡ front ++ rest) × AreSent values rest

-- the octets are those of values of the layout, but for the letter case of names, and these values'
-- octets are canonical
pub record IsUncompressed (fields : List Field) (octets canonical : List ℕ) : Type 0 where
  pub values : List FieldValue
  pub held : AllZip Holds fields values
  pub sent : AreSent values octets
  pub whole : canonical ≡ octets_of values
