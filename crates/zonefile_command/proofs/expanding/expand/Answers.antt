use Rattle.zone_rdata.specs.declared.fault.Stop.TheVariants.{Read}
use Rattle.zone_files.specs.declared.files.stop.FilesStop.TheVariants.{Input}
use Rattle.zonefile_command.proofs.Running.{expands, expands_in_part}
use Rattle.zonefile_command.proofs.expanding.expand.Goals as goal

pub returns-in-Ok : goal.returns-in-Ok
returns-in-Ok g c =
    expands _ _ _ _ (g.E.OctetWriter.state c.args.errors.now) (g.E.OctetWriter.state c.args.errors.now) c.args.origin.now c.args.files.now c.open_main.new.self _ c.in-Some.main c.args.path.now c.in-Some.ensures c.in-Ok.ensures.expanded

pub returns-in-Err : goal.returns-in-Err
returns-in-Err g c = expands_in_part _ _ _ _ _ _ c.args.origin.now c.args.path.now c.args.files.now _ c.in-Err.stop _ c.tell_stop.ensures

pub returns-in-None : goal.returns-in-None
returns-in-None g c = expands_in_part _ _ _ _ _ _ c.args.origin.now c.args.path.now c.args.files.now _ (Input Read) _ c.tell_stop-in-None.ensures
