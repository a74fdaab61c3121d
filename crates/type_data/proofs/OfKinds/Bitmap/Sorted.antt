-- Numbers are put in order.
use Rattle.std.proofs.lemmas.List.Sorted.{IsPermutation-cons, IsPermutation-middle, IsPermutation-refl, IsPermutation-trans}
use Rattle.type_data.proofs.Common.{IsPermutation, List, [], arith, cases_lt, inl, inr, ℕ, ◌<◌, ◌∷◌, ◌≤◌, ◌⊎◌}
use Rattle.type_data.proofs.OfParameters.Ascending.{RiseFrom}

-- the same numbers in an order in which they rise
pub record Orders (low : ℕ) (numbers : List ℕ) : Type 0 where
  pub sorted : List ℕ
  pub same : IsPermutation numbers sorted
  pub rise : RiseFrom low sorted

put_by : (low n m : ℕ) (numbers : List ℕ) → low ≤ n → RiseFrom low (m ∷ numbers) → (m < n) ⊎ (n ≤ m) → (m ≤ n → Orders m (n ∷ numbers)) → Orders low (n ∷ m ∷ numbers)
put_by low n m numbers least rise (inr first) more = record { sorted = n ∷ m ∷ numbers; same = IsPermutation-refl (n ∷ m ∷ numbers); rise = (least, (first, rise.1)) }
put_by low n m numbers least rise (inl later) more =
    let rest = more (omega arith) in
    record {
      sorted = m ∷ rest.sorted;
      same = IsPermutation-trans (n ∷ m ∷ numbers) (m ∷ n ∷ numbers) (m ∷ rest.sorted) (IsPermutation-middle (n ∷ []) m numbers) (IsPermutation-cons m (n ∷ numbers) rest.sorted rest.same);
      rise = (rise.0, rest.rise);
    }

-- one more among those that rise
put_in : (low n : ℕ) (numbers : List ℕ) → low ≤ n → RiseFrom low numbers → Orders low (n ∷ numbers)
put_in low n [] least rise = record { sorted = n ∷ []; same = IsPermutation-refl (n ∷ []); rise = (least, tt) }
put_in low n (m ∷ numbers) least rise = put_by low n m numbers least rise (cases_lt m n) (λ later. put_in m n numbers later rise.1)

pub in_order : (numbers : List ℕ) → Orders 0 numbers
in_order [] = record { sorted = []; same = IsPermutation-refl []; rise = tt }
in_order (n ∷ numbers) =
    let rest = in_order numbers in
    let put = put_in 0 n rest.sorted (omega arith) rest.rise in
    record { sorted = put.sorted; same = IsPermutation-trans (n ∷ numbers) (n ∷ rest.sorted) put.sorted (IsPermutation-cons n numbers rest.sorted rest.same) put.same; rise = put.rise }
