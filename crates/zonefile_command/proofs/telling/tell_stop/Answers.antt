use Rattle.zonefile_command.proofs.Running.{stop_told, stop_untold}
use Rattle.zonefile_command.proofs.telling.tell_stop.Goals as goal

pub returns-in-Ok : goal.returns-in-Ok
returns-in-Ok g c = stop_told c.args.words.now c.args.path.now c.args.stop.now _ _ _ c.status_of.ensures c.in-Ok.ensures.written c.in-Ok.ensures.works

pub returns-in-Err : goal.returns-in-Err
returns-in-Err g c = stop_untold c.args.words.now c.args.path.now c.args.stop.now _ _ _ c.in-Err.ensures.part c.in-Err.ensures.failed
