use Rattle.zonefile_command.specs.Run.{not_shown, shown}
use Rattle.zonefile_command.proofs.Running.{tells_one}
use Rattle.zonefile_command.proofs.differing.show_difference.Goals as goal

pub returns-in-Ok : goal.returns-in-Ok
returns-in-Ok g c = shown c.in-Ok.zone c.in-Ok.other _ c.in-Ok.ensures.zones c.tell_changes.ensures

pub returns-in-Err : goal.returns-in-Err
returns-in-Err g c =
    not_shown _ (tells_one _ _ (g.W.OctetWriter.state c.args.output.now) (g.W.OctetWriter.state c.args.output.now) (g.E.OctetWriter.state c.args.errors.now) _ _ _ c.args.files.now _ c.in-Err.which c.in-Err.stop _ c.in-Err.ensures.none c.tell_stop_of.ensures)
