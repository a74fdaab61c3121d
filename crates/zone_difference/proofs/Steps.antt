-- The steps of a walk over the records of two zones.
use Rattle.zone_set.proofs.Common.{◌≡◌, ◌≢◌, Equal, Greater, Less, List, [], ◌∷◌, ℕ, IsTrue, ◌↔◌, refl, sym, ap, ◌∙◌, subst, inl, inr, ⊎_elim, AllByRecursion, ordering_reverse, tied_itself, Has, IsZone, Record}
use Rattle.zone_set.proofs.Holding.Together.{each_Has}
use Rattle.zone_set.proofs.Ordering.SetOrder.{canonical_total}
use Rattle.zone_set.specs.Order.{Ascends, canonical_cmp}
use Rattle.zone_set.specs.Zone.{Zone}
use Rattle.zone_difference.proofs.Without.{alike}
use Rattle.zone_difference.specs.Walk.{AreSides, AreWithout}

abbrev Before : Record → List Record → Type 0
Before r records = AllByRecursion (λ s. canonical_cmp r s ≡ Less) records

-- ---- the other zone's records are passed up to a record

-- a record before it isn't one at it or after it
pub first_passed : (r n : Record) (rest : List Record) (s : Record) → canonical_cmp n r ≡ Less → canonical_cmp r s ≢ Greater → Has rest s ↔ Has (n ∷ rest) s
first_passed r n rest s less never = (
  λ has. inr has,
  λ has. ⊎_elim (λ (same : s ≡ n). absurd (never (ap (canonical_cmp r) same ∙ canonical_total.antisymm r n ∙ ap ordering_reverse less))) (λ more. more) has,
)

-- one at its place is it, or it isn't among them
pub is_first : (r n : Record) (rest : List Record) → canonical_cmp n r ≡ Equal → Before n rest → Has (n ∷ rest) r → n ≡ r
is_first r n rest tied before (inl same) = sym same
is_first r n rest tied before (inr has) = let bad : Equal ≡ Less = sym tied ∙ each_Has (λ t. canonical_cmp n t ≡ Less) rest r before has in cc bad

pub none_after : (r n : Record) (rest : List Record) → canonical_cmp n r ≡ Greater → Before n rest → Has (n ∷ rest) r → ⊥
none_after r n rest greater before (inl same) = let bad : Greater ≡ Equal = sym greater ∙ ap (canonical_cmp n) same ∙ tied_itself canonical_total n in cc bad
none_after r n rest greater before (inr has) = let bad : Greater ≡ Less = sym greater ∙ each_Has (λ t. canonical_cmp n t ≡ Less) rest r before has in cc bad

pub at_itself : (r : Record) → canonical_cmp r r ≢ Greater
at_itself r bad = let never : Equal ≡ Greater = sym (tied_itself canonical_total r) ∙ bad in cc never

pub after_it : (r s : Record) → canonical_cmp r s ≡ Less → canonical_cmp r s ≢ Greater
after_it r s less bad = let never : Less ≡ Greater = sym less ∙ bad in cc never

-- ---- a record is passed that the other zone has, or is found that it lacks

module _ (r : Record) (records others others' only : List Record) (before : Before r records)
    (rest : (s : Record) → canonical_cmp r s ≡ Less → Has others' s ↔ Has others s) where
  same_after : (t : Record) → Has records t → Has others t ↔ Has others' t
  same_after t has = let both = rest t (each_Has (λ q. canonical_cmp r q ≡ Less) records t before has) in (both.1, both.0)

  pub record_passed : Has others r → AreWithout (Has others) (r ∷ records) only → AreWithout (Has others') records only
  record_passed has (inl (is, more)) = alike (Has others) (Has others') records only same_after more
  record_passed has (inr (none, more)) = absurd (none has)

  pub record_found : (Has others r → ⊥) → AreWithout (Has others) (r ∷ records) only → (more : List Record) × (only ≡ r ∷ more) × AreWithout (Has others') records more
  record_found none (inl (is, more)) = absurd (none is)
  record_found none (inr (also, (after, is, more))) = (after, is, alike (Has others) (Has others') records after same_after more)

-- all records of two zones
pub sides_of_zones : (z w : Zone) (left right : List Record) → IsZone z → IsZone w → left ≡ z.records → right ≡ w.records → AreSides left right
sides_of_zones z w left right is too same same' = record {
  up = subst Ascends (sym same) is.compatible.ascend;
  up_others = subst Ascends (sym same') too.compatible.ascend;
}
