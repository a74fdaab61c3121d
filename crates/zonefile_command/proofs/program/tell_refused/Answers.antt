use Rattle.std.proofs.Common.{[]}
use Rattle.zonefile_command.proofs.Running.{refusal_told, refusal_untold}
use Rattle.zonefile_command.proofs.program.tell_refused.Goals as goal

pub returns-in-Ok : goal.returns-in-Ok
returns-in-Ok g c = refusal_told [] c.args.path.now c.args.stop.now _ _ _ c.in-Ok.ensures.written c.in-Ok.ensures.works

pub returns-in-Err : goal.returns-in-Err
returns-in-Err g c = refusal_untold [] c.args.path.now c.args.stop.now _ _ _ _ c.in-Err.stop _ c.in-Err.ensures.part c.in-Err.ensures.failed c.report.ensures
