use Rattle.zone_set.proofs.Common.{◌≡◌, true, false, sym, ◌∙◌, record_of}
use Rattle.zone_set.proofs.Holding.Finishing.{Walks-start, Walks-more, Walks-found}
use Rattle.zone_set.proofs.sets.ZoneBuilder.first_outside.Goals as goal

pub loop-rr-init : goal.loop-rr-init
loop-rr-init c = record {
  can_next = tt;
  is_finite = tt;
  walks = Walks-start _ _ _ (c.into_iter-rr-iterator.ensures.into_iter_gives ∙ c.iter-rr-items.ensures.records);
}

pub loop-rr-preserved : goal.loop-rr-preserved
loop-rr-preserved c = record {
  can_next = tt;
  is_finite = tt;
  walks = Walks-more _ _ _ _ (record_of c.in-Some.rr) c.loop-rr.invariant.walks c.in-Some.ensures.steps (c.is_within.ensures.0 c.if-not-is_within.false);
}

pub returns-then-not-is_within-clause-outside : goal.returns-then-not-is_within-clause-outside
returns-then-not-is_within-clause-outside c =
    Walks-found _ _ _ _ (record_of c.in-Some.rr) c.loop-rr.invariant.walks c.in-Some.ensures.steps
    (λ within. let no : true ≡ false = sym (c.is_within.ensures.1 within) ∙ c.if-not-is_within.true in cc)
