-- Numbers of first digits: their order, their bound, and digits that are put before others.
use Rattle.zone_set.proofs.Common.{◌≡◌, ◌∙◌, ℕ, zero, suc, ◌+◌, ◌*◌, ◌/◌, ◌^◌, ◌<◌, ◌≤◌, List, [], ◌∷◌, Ordering, Less, Equal, Greater, nat_cmp, refl, sym, ap, subst, arith, ranked, slice_cmp, ⊤, MatchOrdering, first_digits, AreDigits}
use Rattle.std.proofs.Math.Nat.{div-div-eq-div-mul, div-one, mul-add-div_right, mul-le-mul_right, mul_assoc, mul_comm, one-le-pow, pow-suc}

-- a digit before a number of others is below the next digit before none
digit_bound : (c p n : ℕ) → c < 128 → n < p → c * p + n < p * 128
digit_bound c p n low high = grind arith

-- the number takes n digits at most
pub first_digits-bound : (n : ℕ) (digits : List ℕ) → AreDigits digits → first_digits n digits < 128 ^ n
first_digits-bound zero digits low = omega arith
first_digits-bound (suc n) [] low = one-le-pow (suc n) 128 (omega arith)
first_digits-bound (suc n) (c ∷ digits) low = subst (λ p. c * 128 ^ n + first_digits n digits < p) (sym (pow-suc 128 n)) (digit_bound c (128 ^ n) (first_digits n digits) low.0 (first_digits-bound n digits low.1))

-- the first digit decides, and then the rest
digits_less : (c d p m n : ℕ) → m < p → n < p → c * p + m < d * p + n → MatchOrdering (nat_cmp c d) ⊤ (m < n) ⊥
digits_less c d p m n low high h = by (nat_cmp c d) (ranked c d _ refl)
  where
    by : (o : Ordering) → MatchOrdering o (c < d) (c ≡ d) (d < c) → MatchOrdering o ⊤ (m < n) ⊥
    by Less k = tt
    by Equal k = let same : c * p ≡ d * p = ap (λ e. e * p) k in omega (arith, same, h)
    by Greater k = let more : suc d * p ≤ c * p = mul-le-mul_right p k in let next : suc d * p ≡ d * p + p = omega arith in absurd (omega (arith, more, next, h, low, high))

-- a number that is less is that of digits before others
pub first_digits-less : (n : ℕ) (x y : List ℕ) → AreDigits x → AreDigits y → first_digits n x < first_digits n y → slice_cmp nat_cmp x y ≡ Less
first_digits-less zero x y low high h = absurd (omega (arith, h))
first_digits-less (suc n) x [] low high h = absurd (omega (arith, h))
first_digits-less (suc n) [] (d ∷ y) low high h = refl
first_digits-less (suc n) (c ∷ x) (d ∷ y) low high h =
    grind (arith, digits_less c d (128 ^ n) (first_digits n x) (first_digits n y) (first_digits-bound n x low.1) (first_digits-bound n y high.1) h, first_digits-less n x y low.1 high.1)

-- fewer of the first digits
fewer_by_one : (n : ℕ) (digits : List ℕ) → AreDigits digits → first_digits n digits ≡ first_digits (suc n) digits / 128
fewer_by_one zero [] low = refl
fewer_by_one (suc n) [] low = refl
fewer_by_one zero (d ∷ digits) low = grind (arith, low.0)
fewer_by_one (suc n) (d ∷ digits) low =
    let more : d * 128 ^ n * 128 ≡ d * 128 ^ suc n = mul_assoc d (128 ^ n) 128 ∙ ap (λ p. d * p) (sym (pow-suc 128 n)) in
    ap (λ m. d * 128 ^ n + m) (fewer_by_one n digits low.1)
    ∙ sym (mul-add-div_right (omega arith) (d * 128 ^ n) (first_digits (suc n) digits))
    ∙ ap (λ p. (p + first_digits (suc n) digits) / 128) more

pub fewer_digits : (n k t : ℕ) (digits : List ℕ) → k + n ≡ t → AreDigits digits → first_digits n digits ≡ first_digits t digits / 128 ^ k
fewer_digits n zero t digits is low = let same : n ≡ t = omega (arith, is) in ap (λ m. first_digits m digits) same ∙ sym (div-one (first_digits t digits))
fewer_digits n (suc k) t digits is low =
    let same : suc (k + n) ≡ t = omega (arith, is) in
    fewer_digits n k (k + n) digits refl low
    ∙ ap (λ m. m / 128 ^ k) (fewer_by_one (k + n) digits low)
    ∙ div-div-eq-div-mul (first_digits (suc (k + n)) digits) 128 (128 ^ k)
    ∙ ap (λ p. first_digits (suc (k + n)) digits / p) (mul_comm 128 (128 ^ k) ∙ sym (pow-suc 128 k))
    ∙ ap (λ m. first_digits m digits / 128 ^ suc k) same

-- a digit is put before others
pub put_digit : (d number : ℕ) (digits : List ℕ) → AreDigits digits → number ≡ first_digits 9 digits → d * 128 ^ 8 + number / 128 ≡ first_digits 9 (d ∷ digits)
put_digit d number digits low is = ap (λ m. d * 128 ^ 8 + m) (ap (λ m. m / 128) is ∙ sym (fewer_by_one 8 digits low))
