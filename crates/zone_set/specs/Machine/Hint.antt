-- The hint of a record: a number of 64 bits by which most records of a zone are told apart. Nearly
-- all owners of a zone end with the labels of its apex, so it counts from the labels before those.
use Rattle.std.specs.Prelude.{◌≡◌, ◌≢◌, ℕ, zero, suc, ◌+◌, ◌*◌, ◌^◌, ◌<◌, ◌≤◌, List, [], ◌∷◌, ◌++◌, length, map}
use Rattle.std.specs.List.{AllByRecursion}
use Rattle.std.specs.declared.cmp.Ordering.TheVariants.{Less}
use Rattle.zone_name.specs.Common.{each_after}
use Rattle.zone_name.specs.Name.{IsWithin}
use Rattle.zone_name.specs.Order.{name_cmp}
use Rattle.zone_set.specs.Machine.LabelKey.{octets_key, owner_key}

-- digits to the base 128
abbrev pub AreDigits : List ℕ → Type 0
AreDigits digits = AllByRecursion (λ d. d < 128) digits

-- the first n digits as a number, high digit first, with 0 for each digit that is missing
abbrev pub first_digits : ℕ → List ℕ → ℕ
first_digits zero digits = 0
first_digits (suc n) [] = 0
first_digits (suc n) (d ∷ digits) = d * 128 ^ n + first_digits n digits

-- an SOA goes before all else; another record has 1 or the greatest hint where its owner stands before
-- or after the base and those below it, and else at least 2, by the first nine digits of the key of
-- the labels before the base's
pub data IsHint (base owner : List (List ℕ)) (kind hint : ℕ) : Type 0 where
  soa : kind ≡ 6 → hint ≡ 0 → IsHint base owner kind hint
  before : kind ≢ 6 → name_cmp owner base ≡ Less → hint ≡ 1 → IsHint base owner kind hint
  within : (front : List (List ℕ)) → kind ≢ 6 → owner ≡ front ++ base
      → hint ≡ 2 + first_digits 9 (owner_key front) → IsHint base owner kind hint
  after : kind ≢ 6 → (IsWithin owner base → ⊥) → name_cmp base owner ≡ Less
      → hint ≡ 2 + 2 ^ 63 → IsHint base owner kind hint

-- a number of first digits, and that of the same digits after those of a label
abbrev pub IsPutBefore : List ℕ → ℕ → ℕ → Type 0
IsPutBefore label number whole =
    (digits : List ℕ) → AreDigits digits → number ≡ first_digits 9 digits
    → whole ≡ first_digits 9 (octets_key label digits)

-- the number of the labels of one octet each that octets begin with, and what follows them
pub record GathersOnes (octets : List ℕ) (near number : ℕ) (rest : List ℕ) : Type 0 where
  pub others : List ℕ
  pub begins : octets ≡ each_after 1 others ++ rest
  pub digits : number ≡ first_digits 9 (owner_key (map (λ c. c ∷ []) others))
  pub far : 0 < length others → near ≤ length rest
