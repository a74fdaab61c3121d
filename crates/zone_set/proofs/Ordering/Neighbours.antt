-- Records of which the neighbours show that all can stand together, and the list that they came in.
use Rattle.zone_set.proofs.Common.{arith, AllAccepted, AllByRecursion, AreCompatible, AreNeighbours, Ascends, Equal, Greater, Has, InOneSet, IsRecord, Less, List, Placed, Record, SameRecords, [], ap, canonical_cmp, exact_bytes, inl, inr, map-append, nat_list_cmp_total, records_of, refl, sym, tied_itself, ℕ, ◌++◌, ◌∙◌, ◌∷◌, ◌≡◌, ◌≢◌}
use Rattle.zone_set.proofs.Ordering.Between.{Has-append, later_all}
use Rattle.zone_set.proofs.Ordering.SetOrder.{between_sets, canonical_total, stable}
use Rattle.zone_set.proofs.Holding.Together.{each_Has, flipped, soa_first, stable_number, stable_owner}

-- each before the next: each before all that follow
pub Ascends-from_neighbours : (rs : List Record) → AreNeighbours rs → Ascends rs
Ascends-from_neighbours [] next = tt
Ascends-from_neighbours (r ∷ []) next = (tt, tt)
Ascends-from_neighbours (r ∷ (s ∷ rs)) next =
    let ascend = Ascends-from_neighbours (s ∷ rs) next.1 in
    ((next.0.before, later_all r s rs next.0.before ascend.0), ascend)

-- a record and one of those from it on have one TTL, if they are of one set
ttl_from : (r s : Record) (rs : List Record) → ((x : Record) → Has (r ∷ rs) x → x.class ≡ r.class) → AreNeighbours (r ∷ rs) → Has (r ∷ rs) s → InOneSet r s → r.ttl ≡ s.ttl
ttl_from r s rs classes next (inl same) one = ap (λ x. x.ttl) (sym same)
ttl_from r s [] classes next (inr none) one = absurd none
ttl_from r s (t ∷ rs) classes next (inr more) one =
    let ascend = Ascends-from_neighbours (t ∷ rs) next.1 in
    let below : canonical_cmp t s ≢ Greater = grind (arith, more, tied_itself canonical_total t, each_Has (λ x. canonical_cmp t x ≡ Less) rs s ascend.0) in
    let near : InOneSet r t = between_sets r t s (sym (classes s (inr more))) one (λ after. let less = next.0.before in cc) below in
    let own : r.ttl ≡ t.ttl = stable_number r.ttl t.ttl (λ differ. next.0.one_ttl (near, differ)) in
    let far : InOneSet t s = record { owner = sym near.owner ∙ one.owner; kind = sym near.kind ∙ one.kind; covers = sym near.covers ∙ one.covers } in
    own ∙ ttl_from t s rs (λ x among. classes x (inr among) ∙ sym (classes t (inr (inl refl)))) next.1 more far

-- where the first two may stand together, no other is an SOA beside the first
soa_alone : (r : Record) (rs : List Record) → ((x : Record) → Has (r ∷ rs) x → x.class ≡ r.class) → AreNeighbours (r ∷ rs) → r.kind ≡ 6 → (s : Record) → Has rs s → s.kind ≡ 6 → ⊥
soa_alone r [] classes next soa_r s has soa_s = has
soa_alone r (t ∷ rs) classes next soa_r s has soa_s =
    let soa_t : t.kind ≡ 6 = soa_first t rs (Ascends-from_neighbours (t ∷ rs) next.1) s has soa_s in
    let owner : r.owner ≡ t.owner = stable_owner r.owner t.owner (λ other. next.0.one_soa (soa_t, soa_r, inl other)) in
    let octets : r.octets ≡ t.octets = stable nat_list_cmp_total exact_bytes r.octets t.octets (λ other. next.0.one_soa (soa_t, soa_r, inr other)) in
    let class : t.class ≡ r.class = classes t (inr (inl refl)) in
    let tied : canonical_cmp t t ≡ Equal = tied_itself canonical_total t in
    let less : canonical_cmp r t ≡ Less = next.0.before in
    grind (arith, tied, less, owner, octets, class, soa_r, soa_t)

-- so all can stand together
pub AreCompatible-from_neighbours : (class : ℕ) (rs : List Record) → AllByRecursion IsRecord rs → AllByRecursion (λ r. r.class ≡ class) rs → AreNeighbours rs → AreCompatible rs
AreCompatible-from_neighbours class rs each classes next = record {
  each = each;
  ascend = Ascends-from_neighbours rs next;
  one_class = λ r s has_r has_s. grind (arith, each_Has (λ x. x.class ≡ class) rs r classes has_r, each_Has (λ x. x.class ≡ class) rs s classes has_s);
  one_ttl = one_ttl rs classes next;
  one_soa = one_soa rs classes next;
}
  where
    alike : (r : Record) (rs : List Record) → AllByRecursion (λ x. x.class ≡ class) (r ∷ rs) → (x : Record) → Has (r ∷ rs) x → x.class ≡ r.class
    alike r rs classes x has = each_Has (λ y. y.class ≡ class) (r ∷ rs) x classes has ∙ sym classes.0

    later : (r : Record) (rs : List Record) → AreNeighbours (r ∷ rs) → AreNeighbours rs
    later r [] next = tt
    later r (s ∷ rs) next = next.1

    one_ttl : (rs : List Record) → AllByRecursion (λ r. r.class ≡ class) rs → AreNeighbours rs → (r s : Record) → Has rs r → Has rs s → InOneSet r s → r.ttl ≡ s.ttl
    one_ttl [] classes next r s has_r has_s one = absurd has_r
    one_ttl (x ∷ rs) classes next r s has_r has_s one = grind (arith, flipped one, ttl_from x s rs (alike x rs classes) next, ttl_from x r rs (alike x rs classes) next, one_ttl rs classes.1 (later x rs next) r s)

    one_soa : (rs : List Record) → AllByRecursion (λ r. r.class ≡ class) rs → AreNeighbours rs → (r s : Record) → Has rs r → Has rs s → r.kind ≡ 6 → s.kind ≡ 6 → r ≡ s
    one_soa [] classes next r s has_r has_s soa_r soa_s = absurd has_r
    one_soa (x ∷ rs) classes next r s has_r has_s soa_r soa_s = grind (arith, soa_alone x rs (alike x rs classes) next, one_soa rs classes.1 (later x rs next) r s)

-- and each of a list of the same records may stand with all before it
pub AllAccepted-from_compatible : (rs : List Record) (placed : List Placed) → AreCompatible rs → SameRecords rs (records_of placed) → AllAccepted placed
AllAccepted-from_compatible rs placed compatible same before others p parts = record {
  one_class = λ (s, has, differ). differ (compatible.one_class s p.rr (early s has) own);
  one_soa = λ (s, has, (soa_r, soa_s, differ)). let one = compatible.one_soa s p.rr (early s has) own soa_s soa_r in grind (arith, one, differ);
  one_ttl = λ (s, has, one, differ). differ (compatible.one_ttl s p.rr (early s has) own one);
}
  where
    whole : records_of placed ≡ records_of before ++ p.rr ∷ records_of others
    whole = ap records_of parts ∙ map-append (λ (q : Placed). q.rr) before (p ∷ others)

    early : (s : Record) → Has (records_of before) s → Has rs s
    early s has = grind (arith, same s, whole, Has-append (records_of before) (p.rr ∷ records_of others) s)

    own : Has rs p.rr
    own = grind (arith, same p.rr, whole, Has-append (records_of before) (p.rr ∷ records_of others) p.rr)
