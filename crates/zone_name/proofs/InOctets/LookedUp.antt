-- Lanes that are looked up in a table, each by the low four bits of its octet.
use Rattle.std.proofs.lemmas.List.{ext_get_or, get_or-map, length-replicate}
use Rattle.std.proofs.lemmas.Nat.{and_le_r}
use Rattle.std.proofs.lemmas.Simd.{Each1-all, Each1-zip2, Each2-splat, SwzOk, SwzOk-from_below, get_or-swz_l_below, length-swz_l, length-zip2, swz_l}
use Rattle.std.proofs.Math.Logic.{⊎_elim}
use Rattle.std.specs.Int.Bits.{bit_and}
use Rattle.zone_name.proofs.Common.{Bool, List, and_parts, ap, arith, cases_lt, eqb-true, get_or, length, length-map, map, replicate, subst, suc, sym, true, w8, zero, ℕ, ◌&&◌, ◌*◌, ◌+◌, ◌/◌, ◌<◌, ◌==◌, ◌∙◌, ◌≡◌}
use lib.Lanes.{zip2}

abbrev pub all_below : (ℕ → Bool) → ℕ → Bool
all_below p zero = true
all_below p (suc n) = p n && all_below p n

pub every_below : (p : ℕ → Bool) (n : ℕ) → all_below p n ≡ true → (i : ℕ) → i < n → p i ≡ true
every_below p zero all i less = absurd (omega arith)
every_below p (suc n) all i less =
    let parts = and_parts (p n) (all_below p n) all in
    ⊎_elim (every_below p n parts.1 i) (λ at. let e : n ≡ i = omega arith in subst (λ k. p k ≡ true) e parts.0) (cases_lt i n)

-- a table t that is s again and again, where n lanes are looked up in it
abbrev pub Repeats : ℕ → List ℕ → List ℕ → Type 0
Repeats n t s = all_below (λ i. all_below (λ j. get_or t (16 * ((0 + i) / 16) + j) 0 == get_or s j 0) 16) n ≡ true

pub looked_up : (n : ℕ) (t s v js : List ℕ) → length v ≡ n → js ≡ map (λ x. bit_and x 15) v → Repeats n t s → swz_l w8 16 t 0 js ≡ map (λ x. get_or s (bit_and x 15) 0) v
looked_up n t s v js fits e copies =
    let long : length js ≡ n = ap length e ∙ length-map v (λ x. bit_and x 15) ∙ fits in
    ext_get_or 0 _ _ (length-swz_l w8 16 t 0 js ∙ long ∙ sym (length-map v (λ x. get_or s (bit_and x 15) 0) ∙ fits)) (λ i h.
    let less : i < n = omega (arith, length-swz_l w8 16 t 0 js) in
    let within : i < length v = omega (arith, fits) in
    let is : get_or js i 0 ≡ bit_and (get_or v i 0) 15 = ap (λ l. get_or l i 0) e ∙ get_or-map (λ x. bit_and x 15) v i 0 0 within in
    let below : get_or js i 0 < 16 = omega (arith, is, and_le_r (get_or v i 0) 15) in
    let row = every_below (λ a. all_below (λ j. get_or t (16 * ((0 + a) / 16) + j) 0 == get_or s j 0) 16) n copies i less in
    get_or-swz_l_below w8 16 t 0 js i (omega arith) below
    ∙ eqb-true _ _ (every_below (λ j. get_or t (16 * ((0 + i) / 16) + j) 0 == get_or s j 0) 16 row (get_or js i 0) below)
    ∙ ap (λ k. get_or s k 0) is ∙ sym (get_or-map (λ x. get_or s (bit_and x 15) 0) v i 0 0 within))

-- the low four bits of n lanes are places in a block of a table
pub low_places : (b n : ℕ) (v : List ℕ) → n ≡ b * 16 → length v ≡ n → SwzOk w8 16 n 0 (zip2 bit_and v (replicate n 15))
low_places b n v blocks long =
    let small = Each1-all (λ a. bit_and a 15 < 16) (λ a. omega (arith, and_le_r a 15)) v in
    let same : length (zip2 bit_and v (replicate n 15)) ≡ n = length-zip2 bit_and v (replicate n 15) (long ∙ sym (length-replicate n 15)) ∙ long in
    SwzOk-from_below w8 16 b n 0 (zip2 bit_and v (replicate n 15)) blocks (omega (arith, same))
    (Each1-zip2 bit_and (λ j. j < 16) v (replicate n 15) (Each2-splat (λ a b. bit_and a b < 16) v n 15 small))
