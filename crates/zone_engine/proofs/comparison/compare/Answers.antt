use Rattle.zone_engine.proofs.Common.{Keeps-refl, by_first, by_second}
use Rattle.zone_engine.proofs.Compared.{compares_zones, is_accepted}
use Rattle.zone_engine.proofs.comparison.compare.Goals as goal

pub returns-in-Err-clause-stopped : goal.returns-in-Err-clause-stopped
returns-in-Err-clause-stopped g c =
    by_first c.in-Err.stop c.in-Err.ensures.stopped c.in-Err.ensures.read (Keeps-refl _, λ works. works)

pub returns-in-Ok-accepted_zone-clause-compared : goal.returns-in-Ok-accepted_zone-clause-compared
returns-in-Ok-accepted_zone-clause-compared g c =
    compares_zones _ _ _ _ c.in-Ok.zone c.in-Ok-accepted_zone.other c.first_difference.result c.in-Ok.ensures.zone c.in-Ok-accepted_zone.ensures.zone c.first_difference.ensures

pub returns-clause-stopped : goal.returns-clause-stopped
returns-clause-stopped g c =
    by_second c.in-Err-accepted_zone.stop c.in-Err-accepted_zone.ensures.stopped (is_accepted _ _ c.in-Ok.zone c.in-Ok.ensures.zone) c.in-Ok.ensures.read c.in-Err-accepted_zone.ensures.read
