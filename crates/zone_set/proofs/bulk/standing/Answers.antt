use Rattle.zone_set.proofs.Common.{Greater, StandNext, arith, canonical_cmp, false≢true, inl, inr, nat_tests, record_of, sym, ◌∙◌, ◌≡◌, ◌≢◌, ◌⊎◌}
use Rattle.zone_set.proofs.Holding.Together.{flipped}
use Rattle.zone_set.proofs.Hints.ByHint.{StandNext-by_hint}
use Rattle.zone_set.proofs.Ordering.SetOrder.{canonical_total}
use Rattle.zone_set.proofs.bulk.standing.Goals as goal

pub returns-then-a-b : goal.returns-then-a-b
returns-then-a-b g c = record {
  before = λ is. StandNext-by_hint g.base c.args.class c.args.octets.now c.args.a c.args.b c.requires.0 c.requires.1 (grind (arith, nat_tests, c.cmp.ensures, is));
  after = λ is. StandNext-by_hint g.base c.args.class c.args.octets.now c.args.b c.args.a c.requires.1 c.requires.0 (grind (arith, nat_tests, c.cmp.ensures, is));
}

pub returns-clause-before : goal.returns-clause-before
returns-clause-before g c = λ is.
    let near : StandNext (record_of c.record_at-rr.result) (record_of c.record_at-next.result) = record {
      before = sym c.canonical_order.ensures ∙ is;
      one_ttl = λ other. false≢true (c.if-has_other_ttl.ensures.1 other);
      one_soa = λ two. false≢true (c.if-is_other_soa.ensures.1 two);
    } in
    rw (c.record_at-rr.ensures, c.record_at-next.ensures) at near

pub returns-clause-after : goal.returns-clause-after
returns-clause-after g c = λ is.
    let rr = record_of c.record_at-rr.result in
    let next = record_of c.record_at-next.result in
    let over : canonical_cmp rr next ≡ Greater = sym c.canonical_order.ensures ∙ is in
    let near : StandNext next rr = record {
      before = grind (arith, over, canonical_total.antisymm next rr);
      one_ttl = λ (one, differ). false≢true (c.if-has_other_ttl.ensures.1 (flipped one, λ same. differ (sym same)));
      one_soa = λ (soa, soa_next, differ). false≢true (c.if-is_other_soa.ensures.1 (soa_next, soa, turned differ));
    } in
    rw (c.record_at-rr.ensures, c.record_at-next.ensures) at near
  where
    turned : {A B : Type 0} {a b : A} {c d : B} → (a ≢ b) ⊎ (c ≢ d) → (b ≢ a) ⊎ (d ≢ c)
    turned (inl differ) = inl (λ same. differ (sym same))
    turned (inr differ) = inr (λ same. differ (sym same))
