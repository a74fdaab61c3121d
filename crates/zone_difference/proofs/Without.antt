-- The records of one list that the other lacks, found in their order.
use Rattle.zone_set.proofs.Common.{◌≡◌, Less, List, [], ◌∷◌, ◌↔◌, refl, sym, subst, inl, inr, ⊎_elim, ◌⊎◌, AllByRecursion, Has, Record}
use Rattle.zone_set.proofs.Holding.Together.{each_Has, each_from_Has}
use Rattle.zone_set.specs.Order.{Ascends, canonical_cmp}
use Rattle.zone_difference.proofs.OneDifference.{has_or_not}
use Rattle.zone_difference.specs.Difference.{AreOnlyIn, HasEqual, IsDifference}
use Rattle.zone_difference.specs.declared.name_case.NameCase.{NameCase}
use Rattle.zone_difference.specs.Walk.{AreWithout}

-- ---- such records are found

found_more : (P : Record → Type 0) (r : Record) (records : List Record) → (P r ⊎ (P r → ⊥)) → ((only : List Record) × AreWithout P records only) → (only : List Record) × AreWithout P (r ∷ records) only
found_more P r records (inl is) rest = (rest.0, inl (is, rest.1))
found_more P r records (inr none) rest = (r ∷ rest.0, inr (none, (rest.0, refl, rest.1)))

pub found : (P : Record → Type 0) (records : List Record) → ((r : Record) → Has records r → P r ⊎ (P r → ⊥)) → (only : List Record) × AreWithout P records only
found P [] decides = ([], refl)
found P (r ∷ records) decides = found_more P r records (decides r (inl refl)) (found P records (λ s has. decides s (inr has)))

-- ---- what they are

module _ (P : Record → Type 0) where
  pub among : (records only : List Record) → AreWithout P records only → (t : Record) → Has only t → Has records t × (P t → ⊥)
  among [] only none t has = absurd (subst (λ l. Has l t) none has)
  among (r ∷ records) only (inl (is, more)) t has = let both = among records only more t has in (inr both.0, both.1)
  among (r ∷ records) only (inr (not_it, (rest, is, more))) t has =
      ⊎_elim
      (λ (same : t ≡ r). (inl same, subst (λ q. P q → ⊥) (sym same) not_it))
      (λ later. let both = among records rest more t later in (inr both.0, both.1)) (subst (λ l. Has l t) is has)

  pub all_found : (records only : List Record) → AreWithout P records only → (t : Record) → Has records t → (P t → ⊥) → Has only t
  all_found [] only none t has never = absurd has
  all_found (r ∷ records) only (inl (is, more)) t (inl same) never = absurd (never (subst P (sym same) is))
  all_found (r ∷ records) only (inl (is, more)) t (inr has) never = all_found records only more t has never
  all_found (r ∷ records) only (inr (none, (rest, is, more))) t (inl same) never = subst (λ l. Has l t) (sym is) (inl same)
  all_found (r ∷ records) only (inr (none, (rest, is, more))) t (inr has) never = subst (λ l. Has l t) (sym is) (inr (all_found records rest more t has never))

  pub ascend : (records only : List Record) → AreWithout P records only → Ascends records → Ascends only
  ascend [] only none up = subst Ascends (sym none) tt
  ascend (r ∷ records) only (inl (is, more)) up = ascend records only more up.1
  ascend (r ∷ records) only (inr (not_it, (rest, is, more))) up =
      subst Ascends (sym is) (
        each_from_Has (λ t. canonical_cmp r t ≡ Less) rest (λ t has. each_Has (λ q. canonical_cmp r q ≡ Less) records t up.0 (among records rest more t has).0),
        ascend records rest more up.1,
      )

-- what is the same of each of the records
pub alike : (P Q : Record → Type 0) (records only : List Record) → ((t : Record) → Has records t → P t ↔ Q t) → AreWithout P records only → AreWithout Q records only
alike P Q [] only same none = none
alike P Q (r ∷ records) only same (inl (is, more)) = inl ((same r (inl refl)).0 is, alike P Q records only (λ t has. same t (inr has)) more)
alike P Q (r ∷ records) only same (inr (not_it, (rest, is, more))) = inr (λ has. not_it ((same r (inl refl)).1 has), (rest, is, alike P Q records rest (λ t has. same t (inr has)) more))

pub only_in : (case : NameCase) (records others only : List Record) → AreWithout (HasEqual case others) records only → Ascends records → AreOnlyIn case records others only
only_in case records others only are up = record {
  ascend = ascend (HasEqual case others) records only are up;
  are = λ t. (among (HasEqual case others) records only are t, λ both. all_found (HasEqual case others) records only are t both.0 both.1);
}

pub found_only : (records others : List Record) → (only : List Record) × AreWithout (Has others) records only
found_only records others = found (Has others) records (λ r has. has_or_not others r)

pub difference : (case : NameCase) (records others gone come : List Record) → AreWithout (HasEqual case others) records gone → AreWithout (HasEqual case records) others come → Ascends records → Ascends others → IsDifference case records others gone come
difference case records others gone come are too up up_others = record {
  gone = only_in case records others gone are up;
  come = only_in case others records come too up_others;
}

-- ---- one step

pub one_without : (P : Record → Type 0) (r : Record) (records only : List Record) → P r → AreWithout P (r ∷ records) only → AreWithout P records only
one_without P r records only is (inl (also, more)) = more
one_without P r records only is (inr (none, more)) = absurd (none is)

pub one_with : (P : Record → Type 0) (r : Record) (records only : List Record) → (P r → ⊥) → AreWithout P (r ∷ records) only → (rest : List Record) × (only ≡ r ∷ rest) × AreWithout P records rest
one_with P r records only none (inl (is, more)) = absurd (none is)
one_with P r records only none (inr (also, (rest, is, more))) = (rest, is, more)
