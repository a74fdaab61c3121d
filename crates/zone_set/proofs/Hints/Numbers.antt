-- Octets that are compared as numbers.
use Rattle.zone_set.proofs.Common.{AreLow, Equal, List, Ordering, [], ap, arith, common_steps, drop, from_be_bytes, length, length-take-le, low_take, nat_cmp, nat_cmp_is, ordering_then, refl, slice_cmp, subst, suc, sym, take, then_assoc, w64, zero, ℕ, ◌*◌, ◌+◌, ◌∙◌, ◌∷◌, ◌≡◌}

-- the number of octets that go on from another
abbrev number_on : ℕ → List ℕ → ℕ
number_on n [] = n
number_on n (c ∷ octets) = number_on (n * 256 + c) octets

numbers_compare : (m n : ℕ) (x y : List ℕ) → length x ≡ length y → AreLow x → AreLow y → nat_cmp (number_on m x) (number_on n y) ≡ ordering_then (nat_cmp m n) (slice_cmp nat_cmp x y)
numbers_compare m n [] y same p q = grind arith
numbers_compare m n (c ∷ x) [] same p q = absurd (omega (arith, same))
numbers_compare m n (c ∷ x) (d ∷ y) same p q =
    numbers_compare (m * 256 + c) (n * 256 + d) x y (omega (arith, same)) p.1 q.1
    ∙ ap (λ o. ordering_then o (slice_cmp nat_cmp x y)) (grind (arith, p.0, q.0))
    ∙ then_assoc (nat_cmp m n) (nat_cmp c d) (slice_cmp nat_cmp x y)

-- lists compare by their fronts, and then by what follows
pub cut_compare : (n : ℕ) (x y : List ℕ) → slice_cmp nat_cmp x y ≡ ordering_then (slice_cmp nat_cmp (take n x) (take n y)) (slice_cmp nat_cmp (drop n x) (drop n y))
cut_compare zero x y = refl
cut_compare (suc n) [] y = grind arith
cut_compare (suc n) (c ∷ x) [] = refl
cut_compare (suc n) (c ∷ x) (d ∷ y) = grind (arith, cut_compare n x y)

-- eight octets as the number that they are read as
number_of_eight : (x : List ℕ) → length x ≡ 8 → from_be_bytes w64 x ≡ number_on 0 x
number_of_eight x eight = grind (arith, common_steps)

pub eights_compare : (x y : List ℕ) → length x ≡ 8 → length y ≡ 8 → AreLow x → AreLow y → nat_cmp (from_be_bytes w64 x) (from_be_bytes w64 y) ≡ slice_cmp nat_cmp x y
eights_compare x y p q low high = grind (arith, nat_cmp, number_of_eight, numbers_compare)

-- what follows numbers that differ decides nothing, and what follows equal numbers decides
pub then_apart : (m n : ℕ) (p : Ordering) → (m ≡ n → ⊥) → ordering_then (nat_cmp m n) p ≡ nat_cmp m n
then_apart m n p apart = grind arith

pub then_same : (m n : ℕ) (p : Ordering) → m ≡ n → ordering_then (nat_cmp m n) p ≡ p
then_same m n p same = ap (λ o. ordering_then o p) (sym (nat_cmp_is m n Equal same))

-- the first eight octets of both, and what follows them
pub eights_first : (m n : ℕ) (a b x y more others : List ℕ) → m ≡ from_be_bytes w64 x → n ≡ from_be_bytes w64 y → AreLow a → AreLow b → (x ≡ take 8 a) × (more ≡ drop 8 a) × (length more + 8 ≡ length a) → (y ≡ take 8 b) × (others ≡ drop 8 b) × (length others + 8 ≡ length b)
    → slice_cmp nat_cmp a b ≡ ordering_then (nat_cmp m n) (slice_cmp nat_cmp more others)
eights_first m n a b x y more others is_m is_n low high p q =
    let long_x : length x ≡ 8 = ap length p.0 ∙ length-take-le 8 a (omega (arith, p.2)) in
    let long_y : length y ≡ 8 = ap length q.0 ∙ length-take-le 8 b (omega (arith, q.2)) in
    let fronts = eights_compare x y long_x long_y (subst AreLow (sym p.0) (low_take 8 a low)) (subst AreLow (sym q.0) (low_take 8 b high)) in
    let cut = cut_compare 8 a b in
    rw (is_m, is_n, fronts, p.0, q.0, p.1, q.1) cut
