use Rattle.zone_files.proofs.Presenting.Written.{pushing_memory}
use Rattle.zone_files.proofs.bytes.normalise_presentation.Goals as goal

pub returns-clause-stopped : goal.returns-clause-stopped
returns-clause-stopped c =
    rw (c.of_stop.ensures, pushing_memory _ c.in-Err-push_zone.stop c.in-Ok.ensures.short c.in-Err-push_zone.ensures.stopped) tt

pub returns-clause-fault : goal.returns-clause-fault
returns-clause-fault c =
    rw (c.of_stop.ensures, pushing_memory _ c.in-Err-push_zone.stop c.in-Ok.ensures.short c.in-Err-push_zone.ensures.stopped) tt
