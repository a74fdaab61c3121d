-- One list of changes, and what it says of the zones.
use Rattle.zone_set.proofs.Common.{◌≡◌, List, [], ◌∷◌, refl, sym, ap, ◌∙◌, subst, inl, inr, AllByRecursion, Has, Record, IsZone}
use Rattle.std.specs.Prelude.{◌↔◌}
use Rattle.zone_set.specs.Zone.{Zone}
use Rattle.zone_difference.proofs.OneDifference.{none_if_one, one_difference}
use Rattle.zone_difference.proofs.Rrsets.{never_both}
use Rattle.zone_difference.specs.Difference.{AreChanges, AreInOrder, Change, GoesBefore, addition, added_of, removal, removed_of}
use Rattle.zone_difference.specs.declared.name_case.NameCase.{NameCase}
use Rattle.zone_difference.specs.declared.name_case.NameCase.TheVariants.{Exact}

-- ---- no changes

pub no_changes : (changes : List Change) → removed_of changes ≡ [] → added_of changes ≡ [] → changes ≡ []
no_changes [] gone come = refl
no_changes (removal r ∷ changes) gone come = absurd cc
no_changes (addition r ∷ changes) gone come = absurd cc

pub none_of_one_zone : (z w : Zone) (changes : List Change) → IsZone z → IsZone w → AreChanges Exact z.records w.records changes → (changes ≡ []) ↔ (z ≡ w)
none_of_one_zone z w changes is too are =
    let both = none_if_one z w (removed_of changes) (added_of changes) is too are.difference in (
      λ none. both.0 (ap removed_of none, ap added_of none),
      λ same. let empty = both.1 same in no_changes changes empty.0 empty.1,
    )

-- ---- the other way

pub other_way : (case : NameCase) (records others : List Record) (changes back : List Change) → AreChanges case records others changes → AreChanges case others records back → (removed_of back ≡ added_of changes) × (added_of back ≡ removed_of changes)
other_way case records others changes back are again =
    one_difference case others records (removed_of back) (added_of back) (added_of changes) (removed_of changes) again.difference (record { gone = are.difference.come; come = are.difference.gone })

-- ---- one list

of_removed : (c : Change) (changes : List Change) (r : Record) → AllByRecursion (GoesBefore c) changes → Has (removed_of changes) r → GoesBefore c (removal r)
of_removed c [] r each has = absurd has
of_removed c (removal s ∷ changes) r each (inl same) = subst (λ t. GoesBefore c (removal t)) (sym same) each.0
of_removed c (removal s ∷ changes) r each (inr has) = of_removed c changes r each.1 has
of_removed c (addition s ∷ changes) r each has = of_removed c changes r each.1 has

of_added : (c : Change) (changes : List Change) (r : Record) → AllByRecursion (GoesBefore c) changes → Has (added_of changes) r → GoesBefore c (addition r)
of_added c [] r each has = absurd has
of_added c (addition s ∷ changes) r each (inl same) = subst (λ t. GoesBefore c (addition t)) (sym same) each.0
of_added c (addition s ∷ changes) r each (inr has) = of_added c changes r each.1 has
of_added c (removal s ∷ changes) r each has = of_added c changes r each.1 has

parted : (r s : Record) (a b : List Change) → r ∷ removed_of a ≡ removed_of b → added_of a ≡ s ∷ added_of b → AllByRecursion (GoesBefore (removal r)) a → AllByRecursion (GoesBefore (addition s)) b → ⊥
parted r s a b gone come first second =
    never_both r s
    (of_added (removal r) a s first (subst (λ l. Has l s) (sym come) (inl refl)))
    (of_removed (addition s) b r second (subst (λ l. Has l r) gone (inl refl)))

first_of : (r s : Record) (a b : List Record) → r ∷ a ≡ s ∷ b → r ≡ s
first_of r s a b e = cc e

rest_of : (r s : Record) (a b : List Record) → r ∷ a ≡ s ∷ b → a ≡ b
rest_of r s a b e = cc e

pub one_list : (a b : List Change) → removed_of a ≡ removed_of b → added_of a ≡ added_of b → AreInOrder a → AreInOrder b → a ≡ b
one_list [] [] gone come up too = refl
one_list [] (removal s ∷ b) gone come up too = absurd cc
one_list [] (addition s ∷ b) gone come up too = absurd cc
one_list (removal r ∷ a) [] gone come up too = absurd cc
one_list (addition r ∷ a) [] gone come up too = absurd cc
one_list (removal r ∷ a) (removal s ∷ b) gone come up too =
    ap (λ t. removal t ∷ a) (first_of r s (removed_of a) (removed_of b) gone) ∙ ap (λ t. removal s ∷ t) (one_list a b (rest_of r s (removed_of a) (removed_of b) gone) come up.1 too.1)
one_list (addition r ∷ a) (addition s ∷ b) gone come up too =
    ap (λ t. addition t ∷ a) (first_of r s (added_of a) (added_of b) come) ∙ ap (λ t. addition s ∷ t) (one_list a b gone (rest_of r s (added_of a) (added_of b) come) up.1 too.1)
one_list (removal r ∷ a) (addition s ∷ b) gone come up too = absurd (parted r s a b gone come up.0 too.0)
one_list (addition r ∷ a) (removal s ∷ b) gone come up too = absurd (parted s r b a (sym gone) (sym come) too.0 up.0)

pub one_changes : (case : NameCase) (records others : List Record) (changes more : List Change) → AreChanges case records others changes → AreChanges case records others more → changes ≡ more
one_changes case records others changes more are too =
    let same = one_difference case records others (removed_of changes) (added_of changes) (removed_of more) (added_of more) are.difference too.difference in
    one_list changes more same.0 same.1 are.order too.order
