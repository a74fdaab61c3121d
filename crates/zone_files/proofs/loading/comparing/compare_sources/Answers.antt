use Rattle.std.proofs.KnownBytes.{Keeps-refl}
use Rattle.zone_files.specs.Loading.Compare.{by_first, by_second}
use Rattle.zone_files.proofs.Presenting.Compared.{compares_zones, is_accepted}
use Rattle.zone_files.proofs.loading.comparing.compare_sources.Goals as goal

pub returns-in-Err-clause-stopped : goal.returns-in-Err-clause-stopped
returns-in-Err-clause-stopped g c =
    by_first c.in-Err.refusal c.in-Err.ensures.stopped c.in-Err.ensures.read (Keeps-refl _, λ works. works)

pub returns-in-Ok-accepted_source-clause-compared : goal.returns-in-Ok-accepted_source-clause-compared
returns-in-Ok-accepted_source-clause-compared g c =
    compares_zones _ _ _ _ c.in-Ok.zone c.in-Ok-accepted_source.other c.first_difference.result c.in-Ok.ensures.zone c.in-Ok-accepted_source.ensures.zone c.first_difference.ensures

pub returns-clause-stopped : goal.returns-clause-stopped
returns-clause-stopped g c =
    by_second c.in-Err-accepted_source.refusal c.in-Err-accepted_source.ensures.stopped (is_accepted _ _ c.in-Ok.zone c.in-Ok.ensures.zone) c.in-Ok.ensures.read c.in-Err-accepted_source.ensures.read
