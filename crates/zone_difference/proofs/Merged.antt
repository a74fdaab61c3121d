-- The changes by which ascending records go and come.
use Rattle.zone_set.proofs.Common.{◌≡◌, ◌≢◌, Equal, Greater, Less, Ordering, List, [], ◌∷◌, ◌+◌, ◌≤◌, ℕ, suc, zero, length, refl, sym, ap, ◌∙◌, subst, inl, inr, arith, AllByRecursion, Has, Record}
use Rattle.zone_set.proofs.Holding.Together.{each_Has}
use Rattle.zone_set.specs.Order.{Ascends, canonical_cmp}
use Rattle.zone_difference.proofs.Rrsets.{addition_before, removal_before, removal_goes, rrset_cmp, turned_goes}
use Rattle.zone_difference.specs.Difference.{AreChanges, AreInOrder, Change, GoesBefore, IsDifference, addition, added_of, removal, removed_of}
use Rattle.zone_difference.specs.Walk.{IsFirstOf, OnFirst}
use Rattle.zone_difference.specs.declared.name_case.NameCase.{NameCase}

-- by these changes, in order, these records go and these come
pub record AreMerged (gone come : List Record) (changes : List Change) : Type 0 where
  pub removed : removed_of changes ≡ gone
  pub added : added_of changes ≡ come
  pub order : AreInOrder changes

pub none_merged : AreMerged [] [] []
none_merged = record { removed = refl; added = refl; order = tt }

all_before : (c : Change) (more : List Change) → ((s : Record) → Has (removed_of more) s → GoesBefore c (removal s)) → ((s : Record) → Has (added_of more) s → GoesBefore c (addition s)) → AllByRecursion (GoesBefore c) more
all_before c [] gone come = tt
all_before c (removal r ∷ more) gone come = (gone r (inl refl), all_before c more (λ s has. gone s (inr has)) come)
all_before c (addition r ∷ more) gone come = (come r (inl refl), all_before c more gone (λ s has. come s (inr has)))

removal_then : (r : Record) (gone come : List Record) (more : List Change) → Ascends (r ∷ gone) → Ascends come → OnFirst (λ s. GoesBefore (removal r) (addition s)) come → AreMerged gone come more → AreMerged (r ∷ gone) come (removal r ∷ more)
removal_then r gone come more up up_come first merged = record {
  removed = ap (λ l. r ∷ l) merged.removed;
  added = merged.added;
  order = (
    all_before (removal r) more
        (λ s has. each_Has (λ t. canonical_cmp r t ≡ Less) gone s up.0 (subst (λ l. Has l s) merged.removed has))
        (λ s has. removal_before r come up_come first s (subst (λ l. Has l s) merged.added has)),
    merged.order,
  );
}

addition_then : (s : Record) (gone come : List Record) (more : List Change) → Ascends gone → Ascends (s ∷ come) → OnFirst (λ r. GoesBefore (addition s) (removal r)) gone → AreMerged gone come more → AreMerged gone (s ∷ come) (addition s ∷ more)
addition_then s gone come more up up_come first merged = record {
  removed = merged.removed;
  added = ap (λ l. s ∷ l) merged.added;
  order = (
    all_before (addition s) more
        (λ r has. addition_before s gone up first r (subst (λ l. Has l r) merged.removed has))
        (λ r has. each_Has (λ t. canonical_cmp s t ≡ Less) come r up_come.0 (subst (λ l. Has l r) merged.added has)),
    merged.order,
  );
}

-- the first change, and those after it
pub first_and : (c : Change) (gone come gone' come' : List Record) (more : List Change) → Ascends gone → Ascends come → IsFirstOf c gone come gone' come' → AreMerged gone' come' more → AreMerged gone come (c ∷ more)
first_and (removal r) gone come gone' come' more up up_come (is, same, first) merged =
    subst (λ l. AreMerged l come (removal r ∷ more)) (sym is)
    (removal_then r gone' come more (subst Ascends is up) up_come first (subst (λ l. AreMerged gone' l more) same merged))
first_and (addition s) gone come gone' come' more up up_come (is, same, first) merged =
    subst (λ l. AreMerged gone l (addition s ∷ more)) (sym is)
    (addition_then s gone come' more up (subst Ascends is up_come) first (subst (λ l. AreMerged l come' more) same merged))

-- what is left after it ascends
pub gone_up : (c : Change) (gone come gone' come' : List Record) → Ascends gone → IsFirstOf c gone come gone' come' → Ascends gone'
gone_up (removal r) gone come gone' come' up (is, same, first) = (subst Ascends is up).1
gone_up (addition s) gone come gone' come' up (is, same, first) = subst Ascends (sym same) up

pub come_up : (c : Change) (gone come gone' come' : List Record) → Ascends come → IsFirstOf c gone come gone' come' → Ascends come'
come_up (removal r) gone come gone' come' up (is, same, first) = subst Ascends (sym same) up
come_up (addition s) gone come gone' come' up (is, same, first) = (subst Ascends is up).1

-- ---- there are such changes

abbrev HaveMerged : List Record → List Record → Type 0
HaveMerged gone come = (changes : List Change) × AreMerged gone come changes

by_order : (r s : Record) (gone come : List Record) (o : Ordering) → rrset_cmp r s ≡ o → Ascends (r ∷ gone) → Ascends (s ∷ come) → HaveMerged gone (s ∷ come) → HaveMerged (r ∷ gone) come → HaveMerged (r ∷ gone) (s ∷ come)
by_order r s gone come Less e up up_come left right = (removal r ∷ left.0, removal_then r gone (s ∷ come) left.0 up up_come (removal_goes r s (λ bad. let never : Less ≡ Greater = sym e ∙ bad in cc never)) left.1)
by_order r s gone come Equal e up up_come left right = (removal r ∷ left.0, removal_then r gone (s ∷ come) left.0 up up_come (removal_goes r s (λ bad. let never : Equal ≡ Greater = sym e ∙ bad in cc never)) left.1)
by_order r s gone come Greater e up up_come left right = (addition s ∷ right.0, addition_then s (r ∷ gone) come right.0 up up_come (turned_goes r s e) right.1)

within : (n : ℕ) (gone come : List Record) → length gone + length come ≤ n → Ascends gone → Ascends come → HaveMerged gone come
within n [] [] few up up_come = ([], none_merged)
within zero (r ∷ gone) come few up up_come = absurd (omega arith)
within zero [] (s ∷ come) few up up_come = absurd (omega arith)
within (suc n) (r ∷ gone) [] few up up_come = let rest = within n gone [] (omega arith) up.1 tt in (removal r ∷ rest.0, removal_then r gone [] rest.0 up tt tt rest.1)
within (suc n) [] (s ∷ come) few up up_come = let rest = within n [] come (omega arith) tt up_come.1 in (addition s ∷ rest.0, addition_then s [] come rest.0 tt up_come tt rest.1)
within (suc n) (r ∷ gone) (s ∷ come) few up up_come =
    by_order r s gone come (rrset_cmp r s) refl up up_come
    (within n gone (s ∷ come) (omega arith) up.1 up_come)
    (within n (r ∷ gone) come (omega arith) up up_come.1)

pub have_merged : (gone come : List Record) → Ascends gone → Ascends come → HaveMerged gone come
have_merged gone come up up_come = within (length gone + length come) gone come (omega arith) up up_come

-- they are the changes of two lists of records
pub merged_changes : (case : NameCase) (records others gone come : List Record) (changes : List Change) → IsDifference case records others gone come → AreMerged gone come changes → AreChanges case records others changes
merged_changes case records others gone come changes d merged = record {
  difference = subst (λ l. IsDifference case records others l (added_of changes)) (sym merged.removed) (subst (λ l. IsDifference case records others gone l) (sym merged.added) d);
  order = merged.order;
}
