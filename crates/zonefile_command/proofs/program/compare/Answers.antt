use Rattle.zonefile_command.specs.Run.{judged, not_compared}
use Rattle.zonefile_command.proofs.Running.{tells_one}
use Rattle.zonefile_command.proofs.program.compare.Goals as goal

pub returns-in-Ok : goal.returns-in-Ok
returns-in-Ok g c = judged c.in-Ok.zone c.in-Ok.other _ _ c.in-Ok.ensures.zones c.first_difference.ensures c.answer_verdict.ensures

pub returns-in-Err : goal.returns-in-Err
returns-in-Err g c =
    not_compared _ (tells_one _ _ (g.W.OctetWriter.state c.args.output.now) (g.W.OctetWriter.state c.args.output.now) (g.E.OctetWriter.state c.args.errors.now) _ c.args.first.now c.args.second.now c.args.files.now _ c.in-Err.which c.in-Err.stop _ c.in-Err.ensures.none c.tell_stop_of.ensures)
