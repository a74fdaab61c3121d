use Rattle.zone_set.proofs.Common.{refl, sym, ◌∙◌, false≢true, record_of}
use Rattle.zone_set.proofs.Holding.Finishing.{IsZone-from_parts, stops_without_soa}
use Rattle.zone_set.proofs.sets.ZoneBuilder.finish.Goals as goal

pub returns-then-not-is_soa-clause-stopped : goal.returns-then-not-is_soa-clause-stopped
returns-then-not-is_soa-clause-stopped c =
    stops_without_soa _ (record_of c.in-Some.first) _ c.iter.ensures.compatible (sym c.iter.ensures.records ∙ c.in-Some.ensures.steps) (λ same. false≢true (c.if-not-is_soa.ensures.1 same))

pub invariant_of-result : goal.invariant_of-result
invariant_of-result c =
    IsZone-from_parts _ (record_of c.in-Some.first) _ c.iter.ensures.compatible (sym c.iter.ensures.records ∙ c.in-Some.ensures.steps) (c.if-not-is_soa.ensures.0 refl) c.to_name-apex.result c.to_name-apex.ensures c.in_default-first_outside.ensures.within

pub returns-clause-zone : goal.returns-clause-zone
returns-clause-zone c =
    IsZone-from_parts _ (record_of c.in-Some.first) _ c.iter.ensures.compatible (sym c.iter.ensures.records ∙ c.in-Some.ensures.steps) (c.if-not-is_soa.ensures.0 refl) c.to_name-apex.result c.to_name-apex.ensures c.in_default-first_outside.ensures.within
