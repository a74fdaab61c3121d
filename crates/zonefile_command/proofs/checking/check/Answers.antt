use Rattle.zonefile_command.specs.Checks.{checked}
use Rattle.zonefile_command.proofs.Counted.{was_unchecked, was_unopened}
use Rattle.zonefile_command.proofs.checking.check.Goals as goal

pub returns-in-Ok : goal.returns-in-Ok
returns-in-Ok g c =
    checked c.in-Some.main c.open_main.new.self c.in-Ok.checked.faults.items c.in-Ok.checked.«end» _ c.in-Some.ensures c.in-Ok.ensures.faults c.tell_checked.ensures

pub returns-in-Err : goal.returns-in-Err
returns-in-Err g c =
    was_unchecked _ _ c.args.asked.0.now c.args.asked.1.now c.args.asked.2 c.args.files.now _ (g.W.OctetWriter.state c.args.output.now) (g.E.OctetWriter.state c.args.errors.now) _ c.in-Some.main c.open_main.new.self c.in-Err.stop _ c.in-Some.ensures c.tell_stop.ensures

pub returns-in-None : goal.returns-in-None
returns-in-None g c =
    was_unopened _ _ c.args.asked.0.now c.args.asked.1.now c.args.asked.2 c.args.files.now _ (g.W.OctetWriter.state c.args.output.now) (g.E.OctetWriter.state c.args.errors.now) _ _ c.in-None.ensures c.tell_stop-in-None.ensures
