-- How many octets at the front fail a test, or pass one, told by those that are looked at at a time.
use Rattle.std.proofs.Common.{◌^◌}
use Rattle.std.proofs.lemmas.List.{drop-map, drop-take}
use Rattle.std.proofs.lemmas.List.Sums.{prefix_len_passes, prefix_len_stops}
use Rattle.std.proofs.lemmas.Nat.{shr-shr}
use Rattle.std.specs.Int.Count.{count_trailing_zeros}
use Rattle.std.specs.Simd.Lanes.{mask_l}
use Rattle.zone_name.proofs.Common.{common_steps, Bool, List, [], ap, arith, cond, drop, false, false≢true, get_or, leading_from_mask_l, length, length-take, map, not, prefix_len, refl, suc, sym, take, trailing_mask_l, true, zero, ℕ, ◌*◌, ◌+◌, ◌-◌, ◌/◌, ◌<◌, ◌∙◌, ◌∷◌, ◌≡◌, ◌≢◌, ◌≤◌, ◌⊎◌}
use lib.Lanes.{chunk}

-- ---- those that pass

-- those from a place on, where all before it passed
pub past : (p : ℕ → Bool) (at : ℕ) (xs : List ℕ) → at ≤ prefix_len p xs
    → prefix_len p xs ≡ at + prefix_len p (drop at xs)
past p zero xs le = omega arith
past p (suc at) [] le = absurd (omega (arith, le))
past p (suc at) (x ∷ xs) le = grind (arith, common_steps, past p at xs)

-- what some of the octets tell of all
pub record RunTells (p : ℕ → Bool) (xs : List ℕ) (at n run : ℕ) : Type 0 where
  pub within : run ≤ n
  pub passed : at + run ≤ prefix_len p xs
  pub ends : run < n → at + run ≡ prefix_len p xs

few : (p : ℕ → Bool) (n : ℕ) (xs : List ℕ) → RunTells p xs 0 n (prefix_len p (take n xs))
few p zero xs = record { within = omega arith; passed = omega arith; ends = λ lt. absurd (omega (arith, lt)) }
few p (suc n) [] = record { within = omega arith; passed = omega arith; ends = λ lt. refl }
few p (suc n) (x ∷ xs) = grind (arith, common_steps, few p n xs)

pub run_tells : (p : ℕ → Bool) (xs : List ℕ) (at n run : ℕ) → at ≤ prefix_len p xs
    → run ≡ prefix_len p (chunk at n xs) → RunTells p xs at n run
run_tells p xs at n run le is =
    let front = few p n (drop at xs) in let all = past p at xs le in grind (arith, front, all)

-- one octet more, or the first that fails
pub one_more : (p : ℕ → Bool) (xs : List ℕ) (at : ℕ) → at ≤ prefix_len p xs → at < length xs
    → p (get_or xs at 0) ≡ true → at + 1 ≤ prefix_len p xs
one_more p xs at le lt e = grind (arith, prefix_len_stops p xs 0, false≢true)

pub first_fails : (p : ℕ → Bool) (xs : List ℕ) (at : ℕ) → at ≤ prefix_len p xs
    → p (get_or xs at 0) ≡ false → at ≡ prefix_len p xs
first_fails p xs at le e = grind (arith, prefix_len_passes p xs at 0, false≢true)

-- ---- those before the first that passes, by the bits of some

-- by the first octet
pub prefix_step : (p : ℕ → Bool) (x : ℕ) (xs : List ℕ)
    → ((p x ≡ true) × (prefix_len (λ c. not (p c)) (x ∷ xs) ≡ 0))
    ⊎ ((p x ≡ false) × (prefix_len (λ c. not (p c)) (x ∷ xs) ≡ suc (prefix_len (λ c. not (p c)) xs)))
prefix_step p x xs = grind (arith, common_steps, prefix_len)

-- where no octet passes, no bit is set
no_bits : (p : ℕ → Bool) (xs : List ℕ) → prefix_len (λ c. not (p c)) xs ≡ length xs → mask_l (map p xs) ≡ 0
no_bits p [] all = refl
no_bits p (x ∷ xs) all = grind (arith, common_steps, prefix_step, no_bits p xs)

module _ (p : ℕ → Bool) (n : ℕ) (octets : List ℕ) (within : n ≤ length octets) where
  long : length (take n octets) ≡ n
  long = omega (arith, within, length-take n octets)

  -- the first bit that is set is that of the first octet that passes
  pub first_inside : n ≤ 64 → mask_l (map p (take n octets)) ≢ 0
      → (count_trailing_zeros 64 (mask_l (map p (take n octets))) ≡ prefix_len (λ c. not (p c)) octets)
      × (prefix_len (λ c. not (p c)) octets < n)
  first_inside small some =
      let tells = few (λ c. not (p c)) n octets in
      let first = trailing_mask_l p 64 (take n octets) (omega (arith, long, small)) (omega arith) in
      let other : prefix_len (λ c. not (p c)) (take n octets) ≢ length (take n octets) = λ e. some (no_bits p (take n octets) e) in
      let less : prefix_len (λ c. not (p c)) (take n octets) < n = omega (arith, long, other, tells.within) in
      let same = tells.ends less in
      (omega (arith, first, same), omega (arith, same, less))

  -- where none is set, the others follow
  pub none_inside : mask_l (map p (take n octets)) ≡ 0
      → prefix_len (λ c. not (p c)) octets ≡ n + prefix_len (λ c. not (p c)) (drop n octets)
  none_inside none =
      let all = leading_from_mask_l p (take n octets) none in
      past (λ c. not (p c)) n octets (omega (arith, all, long, (few (λ c. not (p c)) n octets).passed))

half : (b : Bool) (n : ℕ) → (cond b 1 0 + 2 * n) / 2 ≡ n
half b n = grind arith

-- the bits without the lowest
bits_after : (k : ℕ) (ms : List Bool) → mask_l ms / 2 ^ k ≡ mask_l (drop k ms)
bits_after zero ms = omega arith
bits_after (suc k) [] = omega arith
bits_after (suc k) (b ∷ ms) =
    let one_more : suc k ≡ 1 + k = omega arith in
    ap (λ j. mask_l (b ∷ ms) / 2 ^ j) one_more ∙ sym (shr-shr (mask_l (b ∷ ms)) 1 k) ∙ ap (λ n. n / 2 ^ k) (half b (mask_l ms)) ∙ bits_after k ms

-- those of the octets after the first k + 1
pub after_bits : (p : ℕ → Bool) (n k : ℕ) (octets : List ℕ) → k < n
    → mask_l (map p (take n octets)) / 2 ^ k / 2 ^ 1 ≡ mask_l (map p (take (n - (k + 1)) (drop (k + 1) octets)))
after_bits p n k octets less =
    let m = n - (k + 1) in
    let e : n ≡ k + 1 + m = omega arith in
    shr-shr (mask_l (map p (take n octets))) k 1
    ∙ bits_after (k + 1) (map p (take n octets))
    ∙ ap mask_l (drop-map p (k + 1) (take n octets) ∙ ap (map p) (ap (λ j. drop (k + 1) (take j octets)) e ∙ drop-take (k + 1) m octets))
