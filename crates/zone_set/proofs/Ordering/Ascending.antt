-- A set of records has one strictly ascending list, by any total order of records.
use Rattle.zone_set.proofs.Common.{AllByRecursion, Equal, Has, IsTotalOrder, Less, List, Ordering, Record, SameRecords, [], ap, ap₂, arith, inl, inr, ordering_reverse, refl, sym, tied_itself, ◌∙◌, ◌∷◌, ◌≡◌}
use Rattle.zone_set.proofs.Holding.Together.{each_Has}

module _ (order : Record → Record → Ordering) (total : IsTotalOrder order) (Ascend : List Record → Type 0)
    (ascends : (r : Record) (records : List Record) → Ascend (r ∷ records) → AllByRecursion (λ s. order r s ≡ Less) records × Ascend records) where
  -- no record goes before itself, and no two go each before the other
  not_itself : (r s : Record) → r ≡ s → order r s ≡ Less → ⊥
  not_itself r s same less = let bad : Less ≡ Equal = sym less ∙ ap (order r) (sym same) ∙ tied_itself total r in cc bad

  not_both : (r s : Record) → order r s ≡ Less → order s r ≡ Less → ⊥
  not_both r s less back = let turned = sym less ∙ total.antisymm r s ∙ ap ordering_reverse back in cc turned

  -- the first of two ascending lists of the same records
  same_first : (r s : Record) (records others : List Record) → Ascend (r ∷ records) → Ascend (s ∷ others) → SameRecords (r ∷ records) (s ∷ others) → r ≡ s
  same_first r s records others up up_others same =
      grind (arith, not_both, (same r).0 (inl refl), (same s).1 (inl refl), each_Has (λ t. order r t ≡ Less) records s (ascends r records up).0, each_Has (λ t. order s t ≡ Less) others r (ascends s others up_others).0)

  -- what follows the first of one list follows the first of the other
  after : (r s : Record) (records others : List Record) → Ascend (r ∷ records) → r ≡ s → ((t : Record) → Has (r ∷ records) t → Has (s ∷ others) t) → (t : Record) → Has records t → Has others t
  after r s records others up first same t has = grind (arith, not_itself, each_Has (λ t. order r t ≡ Less) records t (ascends r records up).0 has, same t (inr has))

  pub one_ascending : (records others : List Record) → Ascend records → Ascend others → SameRecords records others → records ≡ others
  one_ascending [] [] up up_others same = refl
  one_ascending [] (s ∷ others) up up_others same = absurd ((same s).1 (inl refl))
  one_ascending (r ∷ records) [] up up_others same = absurd ((same r).0 (inl refl))
  one_ascending (r ∷ records) (s ∷ others) up up_others same =
      let first : r ≡ s = same_first r s records others up up_others same in
      ap₂ (λ (t : Record) (ts : List Record). t ∷ ts) first
      (one_ascending records others (ascends r records up).1 (ascends s others up_others).1 (λ t. (
        after r s records others up first (λ u. (same u).0) t,
        after s r others records up_others (sym first) (λ u. (same u).1) t,
      )))
