-- Entries whose hints were set aside while they were sorted.
use Rattle.zone_set.proofs.Common.{arith, common_steps, Entry, IsPermutation, IsPermutation-map, List, [], ap, length, map, map-append, refl, subst, sym, take, take_more_set, with_hint, ℕ, ◌+◌, ◌<◌, ◌∙◌, ◌∷◌, ◌≡◌}
use Rattle.std.proofs.Math.ListN.{set}

-- an entry from its parts
abbrev pub of : ℕ → ℕ → Entry
of hint at = record { hint = hint; at = at }

of_places : (hint : ℕ) (es : List Entry) → map (with_hint hint) es ≡ map (of hint) (map (λ e. e.at) es)
of_places hint [] = refl
of_places hint (e ∷ es) = ap (λ l. with_hint hint e ∷ l) (of_places hint es)

-- what was keyed, moved and given the one hint that all had is what was moved
pub IsPermutation-keyed : (hint : ℕ) (old keyed moved new : List Entry) → map (with_hint hint) old ≡ old → map (λ e. e.at) keyed ≡ map (λ e. e.at) old → IsPermutation keyed moved → map (λ e. e.at) new ≡ map (λ e. e.at) moved → map (with_hint hint) new ≡ new → IsPermutation old new
IsPermutation-keyed hint old keyed moved new was places moves stay is =
    let first : map (of hint) (map (λ e. e.at) keyed) ≡ old = ap (map (of hint)) places ∙ sym (of_places hint old) ∙ was in
    let second : map (of hint) (map (λ e. e.at) moved) ≡ new = ap (map (of hint)) (sym stay) ∙ sym (of_places hint new) ∙ is in
    subst (λ l. IsPermutation l new) first (subst (λ l. IsPermutation (map (of hint) (map (λ e. e.at) keyed)) l) second
    (IsPermutation-map (of hint) (map (λ e. e.at) keyed) (map (λ e. e.at) moved) (IsPermutation-map (λ e. e.at) keyed moved moves)))

-- one more entry is given the hint
pub with_hint_more : (hint : ℕ) (es : List Entry) (i at : ℕ) → i < length es → map (with_hint hint) (take i es) ≡ take i es → map (with_hint hint) (take (i + 1) (set es i (of hint at))) ≡ take (i + 1) (set es i (of hint at))
with_hint_more hint es i at lt before =
    grind (arith, common_steps, take_more_set, with_hint, map-append)
