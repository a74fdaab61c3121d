-- Heads that were read, of which the first are gone, and the next one as a slice lends it.
use Rattle.zone_set.proofs.Common.{AllByRecursion, AllByRecursion-back, List, ap, drop, drop-cons, length, nat_lt, slice_index_or, subst, suc, sym, take, take-append-drop, true, ℕ, ◌∙◌, ◌∷◌, ◌≡◌}
use Rattle.std.proofs.lemmas.Bool.{ltb-true}

module _ {X : Type 0} (xs lent : List X) (same : lent ≡ xs) (k : ℕ) (x : X) (within : true ≡ nat_lt k (length lent)) (is : x ≡ slice_index_or lent k x) where
  -- it is the first of those that are left
  pub next_left : drop k xs ≡ x ∷ drop (suc k) xs
  next_left = subst (λ ys. drop k ys ≡ x ∷ drop (suc k) ys) same (drop-cons lent k x (ltb-true _ _ (sym within)) ∙ ap (λ y. y ∷ drop (suc k) lent) (sym is))

  -- and what holds of each holds of it
  pub next_holds : (P : X → Type 0) → AllByRecursion P xs → P x
  next_holds P each =
      let left : AllByRecursion P (drop k xs) = AllByRecursion-back P (take k xs) (drop k xs) (subst (AllByRecursion P) (sym (take-append-drop k xs)) each) in
      (subst (AllByRecursion P) next_left left).0
