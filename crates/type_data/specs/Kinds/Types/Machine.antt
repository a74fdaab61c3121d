-- The words of types from one number on and below another.
use Rattle.std.specs.Prelude.{◌≡◌, ℕ, ◌+◌, ◌-◌, ◌<◌, ◌≤◌, ◌↔◌, List, [], ◌∷◌, ◌++◌, map, ⊤}
use Rattle.std.specs.Int.{bit_at}
use Rattle.std.specs.List.{AllByRecursion, Contains}
use Rattle.zone_rdata.specs.Words.{IsKind}
use Rattle.type_data.specs.Kinds.Types.{type_item}
use Rattle.type_data.specs.Printed.{after_blanks}

-- the numbers ascend, from one on and below another
abbrev pub AscendWithin : ℕ → ℕ → List ℕ → Type 0
AscendWithin from past [] = ⊤
AscendWithin from past (n ∷ numbers) = (from ≤ n) × (n < past) × AscendWithin (n + 1) past numbers

-- the words of all types among them for which `Is` holds are appended, ascending, each after a
-- blank, and records can be of each
pub record PrintsBetween (Is : ℕ → Type 0) (from past : ℕ) (old new : List ℕ) : Type 0 where
  pub types : List ℕ
  pub ascend : AscendWithin from past types
  pub kinds : AllByRecursion IsKind types
  pub exactly : (n : ℕ) → Contains types n ↔ ((from ≤ n) × (n < past) × Is n)
  pub appended : new ≡ old ++ after_blanks (map type_item types)

-- no record can be of one of them for which `Is` holds
abbrev pub HasNoKind : (ℕ → Type 0) → ℕ → ℕ → Type 0
HasNoKind Is from past = (n : ℕ) × ((from ≤ n) × (n < past) × Is n × (IsKind n → ⊥))

-- the bit of a type is set in an octet whose highest bit is that of the first
abbrev pub IsInOctet : ℕ → ℕ → ℕ → Type 0
IsInOctet first octet n = bit_at octet (7 - (n - first)) ≡ 1
