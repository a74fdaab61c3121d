-- Hexadecimal digits, looked up lane by lane and woven into one text.
use Rattle.std.proofs.Common.{Fits, drop-cons}
use Rattle.std.proofs.lemmas.Bool.{cases_lt, eq-eqb}
use Rattle.std.proofs.lemmas.List.{get_or-append-add, get_or-map}
use Rattle.std.proofs.lemmas.Nat.{and_mask}
use Rattle.std.proofs.lemmas.Simd.{length-swz_l, swz_l}
use Rattle.std.specs.Int.Bits.{bit_and}
use Rattle.zone_name.proofs.InOctets.LookedUp.{Repeats, all_below, looked_up}
use Rattle.std.specs.Prelude.{Bool, true}
use Rattle.zone_rdata.proofs.Common.{List, [], add-one, ap, arith, drop, drop_all, encode_with, inl, inr, get_or, get_or_append_left, length, length-map, length-take, map, refl, replicate, slice_index, suc, sym, take, w8, zero, zip2_splat, ℕ, ◌%◌, ◌*◌, ◌++◌, ◌+◌, ◌/◌, ◌<◌, ◌^◌, ◌∙◌, ◌∷◌, ◌≡◌, ◌≤◌}
use lib.Lanes.{pick_l, zip2}

-- the places k, n + k, k + 1, n + (k + 1) and so on
abbrev pub weave : ℕ → ℕ → ℕ → List ℕ
weave n k zero = []
weave n k (suc m) = k ∷ (n + k) ∷ weave n (k + 1) m

-- the lists hs and ls are the digits of the high and of the low bits of v
pub record AreDigits (t v hs ls : List ℕ) : Type 0 where
  pub long : length hs ≡ length v
  pub high : (i : ℕ) → i < length v → get_or hs i 0 ≡ slice_index t (get_or v i 0 / 16)
  pub low : (i : ℕ) → i < length v → get_or ls i 0 ≡ slice_index t (get_or v i 0 % 16)

woven : (n : ℕ) (t v hs ls : List ℕ) (k m : ℕ) → length v ≡ n → k + m ≡ n → AreDigits t v hs ls → pick_l 0 (hs ++ ls) (weave n k m) ≡ encode_with t (drop k v)
unfolding encode_with
woven n t v hs ls k zero long all are = rw (drop_all k v (omega (arith, long))) refl
woven n t v hs ls k (suc m) long all are =
    let less : k < length v = omega (arith, long) in
    let front : drop k v ≡ get_or v k 0 ∷ drop (k + 1) v = rw (add-one, drop-cons v k 0) refl in
    let high : get_or (hs ++ ls) k 0 ≡ slice_index t (get_or v k 0 / 16) = get_or_append_left hs ls 0 k (omega (arith, are.long)) ∙ are.high k less in
    let low : get_or (hs ++ ls) (n + k) 0 ≡ slice_index t (get_or v k 0 % 16) =
    ap (λ i. get_or (hs ++ ls) (i + k) 0) (sym (are.long ∙ long)) ∙ get_or-append-add hs ls k 0 ∙ are.low k less in
    rw front (cc (high, low, woven n t v hs ls (k + 1) m long (omega arith) are))

-- digits of low bits, looked up in a table
looked_digits : (n : ℕ) (t s v js : List ℕ) → length v ≡ n → js ≡ map (λ x. bit_and x 15) v → Repeats n t s → (i : ℕ) → i < n → get_or (swz_l w8 16 t 0 js) i 0 ≡ get_or s (get_or v i 0 % 16) 0
looked_digits n t s v js long are copies i less =
    ap (λ l. get_or l i 0) (looked_up n t s v js long are copies)
    ∙ get_or-map (λ x. get_or s (bit_and x 15) 0) v i 0 0 (omega arith)
    ∙ ap (λ k. get_or s k 0) (and_mask (get_or v i 0) 4)

pub splat_long : (f : ℕ → ℕ → ℕ) (n y : ℕ) (v : List ℕ) → length v ≡ n → length (zip2 f v (replicate n y)) ≡ n
splat_long f n y v long = ap length (zip2_splat f v n y long) ∙ length-map v (λ x. f x y) ∙ long

pub taken_fit : (n : ℕ) (v : List ℕ) → ((i : ℕ) → Fits w8 (get_or v i 0)) → (i : ℕ) → Fits w8 (get_or (take n v) i 0)
taken_fit zero v fits i = record { fits = omega arith }
taken_fit (suc n) [] fits i = fits i
taken_fit (suc n) (x ∷ v) fits zero = fits 0
taken_fit (suc n) (x ∷ v) fits (suc i) = taken_fit n v (λ k. fits (suc k)) i

-- the lanes of the high bits
abbrev pub high_bits : ℕ → List ℕ → List ℕ
high_bits n v = zip2 bit_and (zip2 (λ a b. a / 2 ^ b) v (replicate n 4)) (replicate n 15)

abbrev pub low_bits : ℕ → List ℕ → List ℕ
low_bits n v = zip2 bit_and v (replicate n 15)

are_digits : (n : ℕ) (t s v : List ℕ) → length v ≡ n → ((i : ℕ) → Fits w8 (get_or v i 0)) → Repeats n t s
    → AreDigits s v (swz_l w8 16 t 0 (high_bits n v)) (swz_l w8 16 t 0 (low_bits n v))
are_digits n t s v long fits copies =
    let w = map (λ a. a / 2 ^ 4) v in
    let shifted : zip2 (λ a b. a / 2 ^ b) v (replicate n 4) ≡ w = zip2_splat (λ a b. a / 2 ^ b) v n 4 long in
    let as_long : length w ≡ n = length-map v (λ a. a / 2 ^ 4) ∙ long in
    let masked : high_bits n v ≡ map (λ x. bit_and x 15) w = ap (λ l. zip2 bit_and l (replicate n 15)) shifted ∙ zip2_splat bit_and w n 15 as_long in
    record {
      long = length-swz_l w8 16 t 0 (high_bits n v) ∙ ap length masked ∙ length-map w (λ x. bit_and x 15) ∙ length-map v (λ a. a / 2 ^ 4);
      high = λ i less.
          let at : get_or w i 0 ≡ get_or v i 0 / 16 = get_or-map (λ a. a / 2 ^ 4) v i 0 0 less in
          let fit : get_or v i 0 < 256 = (fits i).fits in
          let same : get_or w i 0 % 16 ≡ get_or v i 0 / 16 = omega (arith, at, fit) in
          looked_digits n t s w (high_bits n v) as_long masked copies i (omega (arith, long)) ∙ ap (λ k. get_or s k 0) same;
      low = λ i less. looked_digits n t s v (low_bits n v) long (zip2_splat bit_and v n 15 long) copies i (omega (arith, long));
    }

-- n octets' digits, put into one text
pub digits_woven : (n : ℕ) (t s octets : List ℕ) → n ≤ length octets → ((i : ℕ) → Fits w8 (get_or octets i 0)) → Repeats n t s
    → pick_l 0 (swz_l w8 16 t 0 (high_bits n (take n octets)) ++ swz_l w8 16 t 0 (low_bits n (take n octets))) (weave n 0 n) ≡ encode_with s (take n octets)
digits_woven n t s octets room fits copies =
    let long : length (take n octets) ≡ n = omega (arith, length-take n octets) in
    woven n s (take n octets) _ _ 0 n long (omega arith) (are_digits n t s (take n octets) long (taken_fit n octets fits) copies)

all_below_by : (p : ℕ → Bool) (n : ℕ) → ((i : ℕ) → i < n → p i ≡ true) → all_below p n ≡ true
all_below_by p zero each = refl
all_below_by p (suc n) each = rw (each n (omega arith), all_below_by p n (λ i less. each i (omega arith))) refl

-- digits that come twice are looked up in either half
pub repeats_twice : (t s : List ℕ) → length s ≡ 16 → t ≡ s ++ s → Repeats 32 t s
repeats_twice t s long twice =
    all_below_by _ 32 (λ i less. all_below_by _ 16 (λ j few.
    eq-eqb _ _ (elim (cases_lt i 16) [
      | inl front ↦
          let at : 16 * ((0 + i) / 16) + j ≡ j = omega (arith, front) in
          ap (λ k. get_or t k 0) at ∙ ap (λ l. get_or l j 0) twice ∙ get_or_append_left s s 0 j (omega (arith, long))
      | inr back ↦
          let at : 16 * ((0 + i) / 16) + j ≡ length s + j = omega (arith, back, less, long) in
          ap (λ k. get_or t k 0) at ∙ ap (λ l. get_or l (length s + j) 0) twice ∙ get_or-append-add s s j 0
    ])))
