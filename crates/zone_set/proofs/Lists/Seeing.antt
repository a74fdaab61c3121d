-- Numbers by which records are told apart, and bits that say which were seen.
use Rattle.std.proofs.Common.{max}
use Rattle.std.proofs.lemmas.Nat.Bits.{bit_at-lt, bit_at-zero, bit_at_and, bit_at_or, bit_at_set_same}
use Rattle.std.specs.Int.{bit_at, from_le_bytes}
use Rattle.std.specs.Prelude.{bit_and, bit_or, slice_index, slice_set, ◌%◌}
use Rattle.zone_set.proofs.Common.{List, [], ap, ap₂, arith, drop, eqb-true, length, min, refl, suc, sym, take, true, w64, zero, ℕ, ◌*◌, ◌+◌, ◌/◌, ◌<◌, ◌==◌, ◌^◌, ◌∙◌, ◌∷◌, ◌≡◌}
use Rattle.zone_set.specs.Machine.Distinct.{mixed, mixed_with}

-- ---- eight octets more

pub mixed_step : (d : ℕ) (left rest eight : List ℕ) → eight ≡ take 8 left → rest ≡ drop 8 left → length rest + 8 ≡ length left → mixed_with (length left / 8) d left ≡ mixed_with (length rest / 8) (mixed d (from_le_bytes w64 eight)) rest
mixed_step d left rest eight is_eight is_rest long =
    let count : length left / 8 ≡ suc (length rest / 8) = omega (arith, long) in
    ap (λ n. mixed_with n d left) count ∙ ap₂ (λ e r. mixed_with (length rest / 8) (mixed d (from_le_bytes w64 e)) r) (sym is_eight) (sym is_rest)

pub mixed_end : (d : ℕ) (left : List ℕ) → length left < 8 → mixed_with (length left / 8) d left ≡ d
mixed_end d left few =
    let none : length left / 8 ≡ 0 = omega (arith, few) in
    ap (λ n. mixed_with n d left) none

-- ---- a bit that is set

-- a number in place of another has what that one had
kept_at : (P : ℕ → Type 0) (words : List ℕ) (at word j : ℕ) → (P (slice_index words at) → P word) → P (slice_index words j) → P (slice_index (slice_set words at word) j)
kept_at P [] at word j up holds = holds
kept_at P (x ∷ words) zero word zero up holds = up holds
kept_at P (x ∷ words) zero word (suc j) up holds = holds
kept_at P (x ∷ words) (suc at) word zero up holds = holds
kept_at P (x ∷ words) (suc at) word (suc j) up holds = kept_at P words at word j up holds

stands_at : (words : List ℕ) (at word : ℕ) → at < length words → slice_index (slice_set words at word) at ≡ word
stands_at [] at word within = absurd (omega (arith, within))
stands_at (x ∷ words) zero word within = refl
stands_at (x ∷ words) (suc at) word within = stands_at words at word (omega (arith, within))

module _ (words : List ℕ) (bit : ℕ) where
  abbrev At : ℕ
  At = bit / 64

  abbrev Place : ℕ
  Place = bit % 64

  abbrev Mask : ℕ
  Mask = 1 * 2 ^ Place % 2 ^ 64

  within : Place < 64
  within = omega arith

  mask_has : bit_at Mask Place ≡ 1
  mask_has =
      let set : bit_at (bit_or 0 Mask) Place ≡ 1 = bit_at_set_same w64 0 Place within in
      let none : bit_at 0 Place ≡ 0 = bit_at-zero Place in
      let either : bit_at (bit_or 0 Mask) Place ≡ max (bit_at 0 Place) (bit_at Mask Place) = bit_at_or 0 Mask Place in
      omega (arith, set, none, either)

  pub unseen : (bit_and (slice_index words At) Mask == 0) ≡ true → bit_at (slice_index words At) Place ≡ 1 → ⊥
  unseen none was =
      let is : bit_and (slice_index words At) Mask ≡ 0 = eqb-true (bit_and (slice_index words At) Mask) 0 none in
      let both : bit_at (bit_and (slice_index words At) Mask) Place ≡ min (bit_at (slice_index words At) Place) (bit_at Mask Place) = bit_at_and (slice_index words At) Mask Place in
      let clear : bit_at (bit_and (slice_index words At) Mask) Place ≡ 0 = ap (λ n. bit_at n Place) is ∙ bit_at-zero Place in
      omega (arith, both, clear, was, mask_has)

  abbrev pub Now : List ℕ
  Now = slice_set words At (bit_or (slice_index words At) Mask)

  pub now_seen : At < length words → bit_at (slice_index Now At) Place ≡ 1
  now_seen fits = ap (λ n. bit_at n Place) (stands_at words At (bit_or (slice_index words At) Mask) fits) ∙ bit_at_set_same w64 (slice_index words At) Place within

  pub still_seen : (at k : ℕ) → bit_at (slice_index words at) k ≡ 1 → bit_at (slice_index Now at) k ≡ 1
  still_seen at k was = kept_at (λ w. bit_at w k ≡ 1) words At (bit_or (slice_index words At) Mask) at (λ had.
      let either : bit_at (bit_or (slice_index words At) Mask) k ≡ max (bit_at (slice_index words At) k) (bit_at Mask k) = bit_at_or (slice_index words At) Mask k in
      let low : bit_at Mask k < 2 = bit_at-lt Mask k in
      omega (arith, either, low, had)) was
