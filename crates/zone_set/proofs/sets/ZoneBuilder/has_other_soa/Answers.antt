use Rattle.zone_set.proofs.Common.{◌≡◌, true, sym, ◌∙◌, subst, ◌↔◌, OtherSoa, record_of, AreCompatible}
use Rattle.zone_set.proofs.Holding.Together.{decides_other, one_soa, other_soa}
use Rattle.zone_set.proofs.sets.ZoneBuilder.has_other_soa.Goals as goal

pub returns-in-Some : goal.returns-in-Some
returns-in-Some c =
    let parts = sym c.iter.ensures.records ∙ c.in-Some.ensures.steps in
    let compatible = subst AreCompatible parts c.iter.ensures.compatible in
    subst (λ held. (c.is_other_soa.result ≡ true) ↔ OtherSoa held (record_of c.args.rr.now)) (sym parts)
    (decides_other c.is_other_soa.result c.is_other_soa.ensures.0 c.is_other_soa.ensures.1 (other_soa (record_of c.in-Some.first) _ compatible (record_of c.args.rr.now)) (one_soa (record_of c.in-Some.first) _ compatible (record_of c.args.rr.now)))
