-- Numbers in ascending order.
use Rattle.type_data.proofs.Common.{AscendAbove, IsNonDecreasing, IsPermutation, List, [], ap, arith, cond, get_or, length, ltb, ltb-false, ltb-true, refl, suc, sum_by, sum_by-IsPermutation, sum_by-cons, sym, ℕ, ◌<◌, ◌∙◌, ◌∷◌, ◌≡◌, ◌≤◌}

-- each number is at least as great as the one before it
abbrev pub RiseFrom : ℕ → List ℕ → Type 0
RiseFrom low [] = Unit {0}
RiseFrom low (n ∷ numbers) = (low ≤ n) × RiseFrom n numbers

pub rise_weaker : (low : ℕ) (numbers : List ℕ) → AscendAbove low numbers → RiseFrom low numbers
rise_weaker low [] a = tt
rise_weaker low (n ∷ numbers) a = (omega (arith, a.0), rise_weaker n numbers a.1)

rise_after : (x : ℕ) (xs : List ℕ) → ((k : ℕ) → suc k < length (x ∷ xs) → get_or (x ∷ xs) k 0 ≤ get_or (x ∷ xs) (suc k) 0) → RiseFrom x xs
rise_after x [] h = tt
rise_after x (y ∷ ys) h = (h 0 (omega arith), rise_after y ys (λ k lt. h (suc k) (omega (arith, lt))))

pub rise_by_place : (xs : List ℕ) → IsNonDecreasing xs → RiseFrom 0 xs
rise_by_place [] h = tt
rise_by_place (x ∷ xs) h = (omega arith, rise_after x xs (λ k lt. h k (suc k) 0 (omega arith) lt))

-- one for a number below another
abbrev below : ℕ → ℕ → ℕ
below n z = cond (ltb z n) 1 0

below_none : (n z : ℕ) → n ≤ z → below n z ≡ 0
below_none n z h = grind (arith, ltb-false)

none_below : (n low : ℕ) (numbers : List ℕ) → n ≤ low → RiseFrom low numbers → sum_by (below n) numbers ≡ 0
none_below n low [] h a = refl
none_below n low (m ∷ numbers) h a = omega (arith, sum_by-cons (below n) m numbers, below_none n m (omega (arith, h, a.0)), none_below n m numbers (omega (arith, h, a.0)) a.1)

abbrev HaveSameSums : List ℕ → List ℕ → Type 0
HaveSameSums xs ys = (f : ℕ → ℕ) → sum_by f xs ≡ sum_by f ys

first_least : (x y : ℕ) (xs ys : List ℕ) → RiseFrom y ys → HaveSameSums (x ∷ xs) (y ∷ ys) → y ≤ x
first_least x y xs ys rise same =
    let none : below y x ≡ 0 = omega (arith, same (below y), sum_by-cons (below y) x xs, sum_by-cons (below y) y ys, none_below y y ys (omega arith) rise, below_none y y (omega arith)) in
    grind (arith, ltb-true)

-- numbers that rise and have the same sums are the same
rise_same : (low m : ℕ) (xs ys : List ℕ) → RiseFrom low xs → RiseFrom m ys → HaveSameSums xs ys → xs ≡ ys
rise_same low m [] [] a b same = refl
rise_same low m [] (y ∷ ys) a b same = absurd (omega (arith, same (λ z. 1), sum_by-cons (λ z. 1) y ys))
rise_same low m (x ∷ xs) [] a b same = absurd (omega (arith, same (λ z. 1), sum_by-cons (λ z. 1) x xs))
rise_same low m (x ∷ xs) (y ∷ ys) a b same =
    let up = first_least x y xs ys b.1 same in
    let down = first_least y x ys xs a.1 (λ f. sym (same f)) in
    let e : x ≡ y = omega (arith, up, down) in
    let more = rise_same x y xs ys a.1 b.1 (λ f. omega (arith, same f, sum_by-cons f x xs, sum_by-cons f y ys, ap f e)) in
    cc

-- of lists with the same elements
pub rise_once : (stated xs ys : List ℕ) → IsPermutation stated xs → IsPermutation stated ys → RiseFrom 0 xs → RiseFrom 0 ys → xs ≡ ys
rise_once stated xs ys p q a b = rise_same 0 0 xs ys a b (λ f. sum_by-IsPermutation f stated xs p ∙ sym (sum_by-IsPermutation f stated ys q))
