-- The records after an SOA whose owners lie at or below an apex stand together.
use Rattle.zone_set.proofs.Common.{◌≡◌, ◌≢◌, ℕ, Option, Some, None, Bool, false, ◌==◌, if◌then◌else◌, List, [], ◌∷◌, ◌++◌, Ordering, Less, Greater, nat_cmp, refl, sym, ap, ◌∙◌, subst, inl, inr, ⊎_elim, ne_eqb, arith, tied_itself, AllByRecursion, IfSome, MatchOption, ordering_then, IsWithin, name_cmp, Record, canonical_cmp, Ascends, record_of, Has, AreCompatible}
use Rattle.zone_set.proofs.Ordering.Between.{before_all, Has-append}
use Rattle.zone_set.proofs.Ordering.SetOrder.{canonical_total}
use Rattle.zone_set.proofs.Ordering.Within.{within_between}
use Rattle.zone_set.proofs.Holding.Together.{each_Has, each_from_Has, soa_first}
use Rattle.zone_rdata.specs.declared.lent.RrRef.{RrRef}

-- after a record that is no SOA there is none, and the order is by owner
by_owner : (x y : Bool) (o p : Ordering) → x ≡ false → ordering_then (nat_cmp (if x then 0 else 1) (if y then 0 else 1)) (ordering_then o p) ≡ Less → (y ≡ false) × (o ≢ Greater)
by_owner x y o p no_x less = grind arith

-- the second record is no SOA
second_no_soa : (k l : Record) (rest : List Record) → AreCompatible (k ∷ l ∷ rest) → (l.kind == 6) ≡ false
second_no_soa k l rest compatible = ne_eqb l.kind 6 (λ soa.
    let less : canonical_cmp k l ≡ Less = compatible.ascend.0.0 in
    let first : k.kind ≡ 6 = soa_first k (l ∷ rest) compatible.ascend l (inr (inl refl)) soa in
    let same : k ≡ l = compatible.one_soa k l (inl refl) (inr (inl refl)) first soa in
    grind (arith, tied_itself canonical_total k, less, same))

module _ (apex : List (List ℕ)) where
  -- a record between two
  between : (l s m : Record) → (l.kind == 6) ≡ false → canonical_cmp l s ≡ Less → canonical_cmp s m ≡ Less → IsWithin l.owner apex → IsWithin m.owner apex → IsWithin s.owner apex
  between l s m no_soa low high in_l in_m =
      let first = by_owner (l.kind == 6) (s.kind == 6) (name_cmp l.owner s.owner) _ no_soa low in
      let second = by_owner (s.kind == 6) (m.kind == 6) (name_cmp s.owner m.owner) _ first.0 high in
      within_between apex l.owner s.owner m.owner in_l in_m first.1 second.1

  -- where the first two records and the last lie within, all do
  all_within : (whole : List Record) (k l : Record) (rest front : List Record) (m : Record) → AreCompatible whole → whole ≡ k ∷ l ∷ rest → whole ≡ front ++ m ∷ [] → IsWithin k.owner apex → IsWithin l.owner apex → IsWithin m.owner apex → AllByRecursion (λ r. IsWithin r.owner apex) whole
  all_within whole k l rest front m compatible is ends in_k in_l in_m = each_from_Has (λ r. IsWithin r.owner apex) whole (λ s has. grind (arith, is, later s has))
    where
      known : AreCompatible (k ∷ l ∷ rest)
      known = subst AreCompatible is compatible

      later : (s : Record) → Has whole s → Has rest s → IsWithin s.owner apex
      later s has late =
          let low : canonical_cmp l s ≡ Less = each_Has (λ t. canonical_cmp l t ≡ Less) rest s known.ascend.1.0 late in
          let order : Ascends (front ++ m ∷ []) = subst Ascends ends compatible.ascend in
          ⊎_elim (λ early. between l s m (second_no_soa k l rest known) low (before_all front (m ∷ []) s m order early (inl refl)) in_l in_m) (λ end. grind (arith, end, in_m)) ((Has-append front (m ∷ []) s).0 (subst (λ rs. Has rs s) ends has))

  pub ends_tell : (whole after_first after_second : List Record) (first second last : Option RrRef) → AreCompatible whole
      → MatchOption first ((whole ≡ []) × (after_first ≡ [])) (λ r. whole ≡ record_of r ∷ after_first)
      → MatchOption second ((after_first ≡ []) × (after_second ≡ [])) (λ r. after_first ≡ record_of r ∷ after_second)
      → MatchOption last (whole ≡ []) (λ r. (front : List Record) × (whole ≡ front ++ record_of r ∷ []))
      → IfSome first (λ r. IsWithin r.owner apex) → IfSome second (λ r. IsWithin r.owner apex) → IfSome last (λ r. IsWithin r.owner apex)
      → AllByRecursion (λ r. IsWithin r.owner apex) whole
  ends_tell whole after_first after_second None second last compatible none two three in_first in_second in_last = subst (AllByRecursion (λ r. IsWithin r.owner apex)) (sym none.0) tt
  ends_tell whole after_first after_second (Some k) None last compatible one two three in_first in_second in_last =
      subst (AllByRecursion (λ r. IsWithin r.owner apex)) (sym (one ∙ ap (λ rs. record_of k ∷ rs) two.0)) (in_first, tt)
  ends_tell whole after_first after_second (Some k) (Some l) None compatible one two three in_first in_second in_last = subst (AllByRecursion (λ r. IsWithin r.owner apex)) (sym three) tt
  ends_tell whole after_first after_second (Some k) (Some l) (Some m) compatible one two three in_first in_second in_last =
      all_within whole (record_of k) (record_of l) after_second three.0 (record_of m) compatible (one ∙ ap (λ rs. record_of k ∷ rs) two) three.1 in_first in_second in_last
