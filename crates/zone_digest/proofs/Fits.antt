-- A ZONEMD record at the apex can stand in a zone.
use Rattle.zone_set.proofs.Common.{[], ◌≡◌, List, refl, sym, ap, ◌∙◌, subst, arith, inl, inr, ⊎_elim, ◌⊎◌, ◌↔◌, Equal, Ascends, canonical_cmp, Has, InOneSet, IsRecord, IsWithin, IsZone, Record}
use Rattle.zone_set.specs.Zone.{Zone}
use Rattle.zone_set.proofs.Holding.Together.{each_Has, each_from_Has}
use Rattle.zone_set.proofs.Ordering.SetOrder.{canonical_total, exact_canonical}
use Rattle.zone_digest.specs.Laws.{HasOneMore, HasTtlOfItsSet}
use Rattle.zone_digest.proofs.Putting.{put}
use Rattle.zone_digest.proofs.Sets.{record_same}

pub fits : (z : Zone) (r : Record) → IsZone z → IsRecord r → r.class ≡ z.class → r.owner ≡ z.apex → r.kind ≡ 63 → HasTtlOfItsSet z r → (w : Zone) × IsZone w × HasOneMore z r w
fits z r is record_is class owner kind ttl =
    let g = put canonical_cmp canonical_total Ascends tt (λ s records. (λ up. up, λ up. up)) r z.records is.compatible.ascend tied in
    (record { apex = z.apex; class = z.class; records = g.0 }, zone_of g.0 g.1 g.2, record { apex = refl; same = g.2 })
  where
    own_class : (s : Record) → Has z.records s → s.class ≡ z.class
    own_class s has = each_Has (λ t. t.class ≡ z.class) z.records s is.class has

    in_set : (s : Record) → s.owner ≡ r.owner → s.kind ≡ r.kind → s.octets ≡ r.octets → InOneSet s r
    in_set s a b c = record { owner = a; kind = b; covers = cc }

    tied : (s : Record) → Has z.records s → canonical_cmp r s ≡ Equal → s ≡ r
    tied s has same =
        let e = exact_canonical r s same in
        let set = in_set s (sym e.0) (sym e.1) (sym e.2) in
        record_same r s (sym e.0) (own_class s has ∙ sym class) (sym e.1) (ttl s has set) (sym e.2)

    not_soa : (s : Record) → s ≡ r → s.kind ≡ 6 → ⊥
    not_soa s same soa = let bad : 63 ≡ 6 = sym kind ∙ ap (λ t. t.kind) (sym same) ∙ soa in omega (arith, bad)

    turned : (s t : Record) → InOneSet s t → InOneSet t s
    turned s t one = record { owner = sym one.owner; kind = sym one.kind; covers = sym one.covers }

    zone_of : (new : List Record) → Ascends new → ((s : Record) → Has new s ↔ ((s ≡ r) ⊎ Has z.records s)) → IsZone (record { apex = z.apex; class = z.class; records = new })
    zone_of new up same = record {
      compatible = record {
        each = each_from_Has IsRecord new (λ s has. ⊎_elim (λ e. subst IsRecord (sym e) record_is) (λ h. each_Has IsRecord z.records s is.compatible.each h) ((same s).0 has));
        ascend = up;
        one_class = λ s t has_s has_t. class_of s has_s ∙ sym (class_of t has_t);
        one_ttl = λ s t has_s has_t one. one_of s t one ((same s).0 has_s) ((same t).0 has_t);
        one_soa = λ s t has_s has_t soa_s soa_t. is.compatible.one_soa s t (old s has_s soa_s) (old t has_t soa_t) soa_s soa_t;
      };
      class = each_from_Has (λ t. t.class ≡ z.class) new class_of;
      soa = (is.soa.0, (same is.soa.0).1 (inr is.soa.1), is.soa.2, is.soa.3);
      within = each_from_Has (λ t. IsWithin t.owner z.apex) new (λ s has. ⊎_elim (λ e. ([], ap (λ t. t.owner) e ∙ owner)) (λ h. each_Has (λ t. IsWithin t.owner z.apex) z.records s is.within h) ((same s).0 has));
    }
      where
        class_of : (s : Record) → Has new s → s.class ≡ z.class
        class_of s has = ⊎_elim (λ e. ap (λ t. t.class) e ∙ class) (own_class s) ((same s).0 has)

        old : (s : Record) → Has new s → s.kind ≡ 6 → Has z.records s
        old s has soa = ⊎_elim (λ e. absurd (not_soa s e soa)) (λ h. h) ((same s).0 has)

        one_of : (s t : Record) → InOneSet s t → ((s ≡ r) ⊎ Has z.records s) → ((t ≡ r) ⊎ Has z.records t) → s.ttl ≡ t.ttl
        one_of s t one (inl e) (inl f) = ap (λ q. q.ttl) (e ∙ sym f)
        one_of s t one (inl e) (inr h) = ap (λ q. q.ttl) e ∙ sym (ttl t h (subst (InOneSet t) e (turned s t one)))
        one_of s t one (inr h) (inl f) = ttl s h (subst (InOneSet s) f one) ∙ ap (λ q. q.ttl) (sym f)
        one_of s t one (inr h) (inr k) = is.compatible.one_ttl s t h k one
