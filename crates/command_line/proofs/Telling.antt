-- Line feeds at the end of a text.
use Rattle.std.proofs.Common.{arith, ◌≡◌, ◌∙◌, ◌+◌, ◌-◌, ◌<◌, ◌≤◌, ◌++◌, ◌∷◌, [], ℕ, List, ap, append_assoc, length, replicate, slice_index, suc, sym, take}
use Rattle.std.proofs.lemmas.List.{take_all, take_more}

-- a text that ends with a character is the rest and that character
pub with_last : (s t : List ℕ) (x : ℕ) → 0 < length s → slice_index s (length s - 1) ≡ x → t ≡ take (length s - 1) s → s ≡ t ++ x ∷ []
with_last s t x some is front =
    let all : take (length s - 1 + 1) s ≡ s = take_all (length s - 1 + 1) s (omega (arith, some)) in
    sym all ∙ take_more s (length s - 1) 0 (omega (arith, some)) ∙ ap (λ y. take (length s - 1) s ++ y ∷ []) is ∙ ap (λ f. f ++ x ∷ []) (sym front)

-- and a line feed more is left out
pub one_feed_more : (all s t : List ℕ) (feeds : ℕ) → all ≡ s ++ replicate feeds 10 → s ≡ t ++ 10 ∷ [] → all ≡ t ++ replicate (suc feeds) 10
one_feed_more all s t feeds is ends = is ∙ ap (λ f. f ++ replicate feeds 10) ends ∙ append_assoc t (10 ∷ []) (replicate feeds 10)

-- the text that is looked at ends with this character
pub last_found : (given s : List ℕ) (n x : ℕ) → given ≡ s → n ≡ 1 → n ≤ length given → slice_index given (length given - n) ≡ x → (0 < length s) × (slice_index s (length s - 1) ≡ x)
last_found given s n x same one fits last = (omega (arith, one, fits, ap length same), ap (λ y. slice_index y (length y - 1)) (sym same) ∙ ap (λ m. slice_index given (length given - m)) (sym one) ∙ last)
