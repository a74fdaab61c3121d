-- A record is put where a total order has it among records that ascend.
use Rattle.zone_set.proofs.Common.{[], ◌≡◌, List, ◌∷◌, refl, sym, ap, ◌∙◌, subst, inl, inr, ⊎_elim, ◌⊎◌, ◌↔◌, AllByRecursion, Ordering, Equal, Less, Greater, Has, IsTotalOrder, Record, ordering_reverse}
use Rattle.zone_set.proofs.Holding.Together.{each_Has, each_from_Has}

module _ (order : Record → Record → Ordering) (total : IsTotalOrder order) (Ascend : List Record → Type 0) (nothing : Ascend [])
    (ascends : (r : Record) (records : List Record) → Ascend (r ∷ records) ↔ (AllByRecursion (λ s. order r s ≡ Less) records × Ascend records)) where
  -- an ascending list with one record more
  abbrev pub Grown : Record → List Record → Type 0
  Grown r rs = (new : List Record) × Ascend new × ((s : Record) → Has new s ↔ ((s ≡ r) ⊎ Has rs s))

  put_by : (r x : Record) (rs : List Record) (o : Ordering) → order r x ≡ o → Ascend (x ∷ rs) → (order r x ≡ Equal → x ≡ r) → Grown r rs → Grown r (x ∷ rs)
  put_by r x rs Less known up tied more =
      (r ∷ x ∷ rs, (ascends r (x ∷ rs)).1 ((known, each_from_Has (λ s. order r s ≡ Less) rs (λ s has. total.trans r x s known (each_Has (λ t. order x t ≡ Less) rs s ((ascends x rs).0 up).0 has))), up), λ s. (λ has. has, λ has. has))
  put_by r x rs Equal known up tied more =
      (x ∷ rs, up, λ s. (inr, λ any. ⊎_elim (λ same. inl (same ∙ sym (tied known))) (λ has. has) any))
  put_by r x rs Greater known up tied (new, up_new, same) = (x ∷ new, (ascends x new).1 (each_from_Has (λ s. order x s ≡ Less) new behind, up_new), λ s. (there s, back s))
    where
      less : order x r ≡ Less
      less = total.antisymm x r ∙ ap ordering_reverse known

      behind : (s : Record) → Has new s → order x s ≡ Less
      behind s has = ⊎_elim (λ e. subst (λ t. order x t ≡ Less) (sym e) less) (λ h. each_Has (λ t. order x t ≡ Less) rs s ((ascends x rs).0 up).0 h) ((same s).0 has)

      there : (s : Record) → Has (x ∷ new) s → (s ≡ r) ⊎ Has (x ∷ rs) s
      there s (inl e) = inr (inl e)
      there s (inr has) = ⊎_elim inl (λ h. inr (inr h)) ((same s).0 has)

      back : (s : Record) → (s ≡ r) ⊎ Has (x ∷ rs) s → Has (x ∷ new) s
      back s (inl e) = inr ((same s).1 (inl e))
      back s (inr (inl e)) = inl e
      back s (inr (inr h)) = inr ((same s).1 (inr h))

  pub put : (r : Record) (rs : List Record) → Ascend rs → ((s : Record) → Has rs s → order r s ≡ Equal → s ≡ r) → Grown r rs
  put r [] up tied = (r ∷ [], (ascends r []).1 (tt, nothing), λ s. (λ has. has, λ has. has))
  put r (x ∷ rs) up tied = put_by r x rs (order r x) refl up (tied x (inl refl)) (put r rs ((ascends x rs).0 up).1 (λ s has. tied s (inr has)))
