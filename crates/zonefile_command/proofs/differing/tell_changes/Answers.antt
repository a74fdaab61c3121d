use Rattle.std.proofs.KnownBytes.{Keeps-refl}
use Rattle.zonefile_command.specs.Run.{written_in_part, written_whole}
use Rattle.zonefile_command.proofs.differing.tell_changes.Goals as goal

pub returns-in-Ok : goal.returns-in-Ok
returns-in-Ok g c = rw c.status_if.ensures (written_whole c.in-Ok.differ c.in-Ok.ensures.text (Keeps-refl _, λ w. w))

pub returns-in-Err : goal.returns-in-Err
returns-in-Err g c = written_in_part c.in-Err.stop _ c.in-Err.ensures.stopped c.report.ensures
