-- How much a list keeps, next to the different records among those that it keeps.
use Rattle.std.specs.Prelude.{ℕ, ◌+◌, ◌*◌, ◌≤◌, List, [], ◌∷◌, ⊤, length}
use Rattle.std.specs.List.{AllByRecursion}
use Rattle.zone_name.specs.Name.{wire}
use Rattle.zone_rdata.specs.Record.{Record}
use Rattle.zone_set.specs.Zone.{Has}

-- the octets that keep records: of each its owner uncompressed, its data and nine more (TTL, type
-- and two lengths)
abbrev pub kept_len : List Record → ℕ
kept_len [] = 0
kept_len (r ∷ records) = length (wire r.owner) + length r.octets + 9 + kept_len records

-- no two of the records are the same
abbrev pub AreDifferent : List Record → Type 0
AreDifferent [] = ⊤
AreDifferent (r ∷ records) = (Has records r → ⊥) × AreDifferent records

-- different records, each of which is one of those
pub record AreSomeOf (records some : List Record) : Type 0 where
  pub differ : AreDifferent some
  pub among : AllByRecursion (Has records) some

-- the records are kept in at most c times the octets of different ones among them, and k more
pub record IsBoundedBy (c k : ℕ) (records : List Record) : Type 0 where
  pub some : List Record
  pub are : AreSomeOf records some
  pub bound : kept_len records ≤ c * kept_len some + k
