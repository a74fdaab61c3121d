-- Lists of which each element is an octet, by index.
use Rattle.zone_rdata.proofs.Common.{[], ℕ, zero, suc, ◌<◌, List, ◌∷◌, ◌++◌, lit<, slice_index, arith, common_steps}

abbrev pub Bytes : List ℕ → Type 0
Bytes xs = (i : ℕ) → slice_index xs i < 256

pub bytes_append : (xs ys : List ℕ) → Bytes xs → Bytes ys → Bytes (xs ++ ys)
bytes_append xs ys a b k = grind (arith, common_steps)

pub front_bytes : (xs ys : List ℕ) → Bytes (xs ++ ys) → Bytes xs
front_bytes [] ys each k = lit< tt
front_bytes (x ∷ xs) ys each zero = each 0
front_bytes (x ∷ xs) ys each (suc k) = front_bytes xs ys (λ i. each (suc i)) k

pub back_bytes : (xs ys : List ℕ) → Bytes (xs ++ ys) → Bytes ys
back_bytes [] ys each = each
back_bytes (x ∷ xs) ys each = back_bytes xs ys (λ i. each (suc i))
