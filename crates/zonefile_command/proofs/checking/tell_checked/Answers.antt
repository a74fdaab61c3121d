use Rattle.std.proofs.Common.{◌≡◌, length, rules}
use Rattle.zonefile_command.proofs.Counted.{all_told, part_told}
use Rattle.zonefile_command.proofs.checking.tell_checked.Goals as goal

pub returns-in-Ok : goal.returns-in-Ok
returns-in-Ok g c =
    let counted : c.len.result ≡ length c.args.checked.faults.items = search rules in
    all_told (g.W.OctetWriter.state c.args.output.now) (g.W.OctetWriter.state c.write_found_faults.new.writer) _ (g.E.OctetWriter.state c.args.errors.now) _ c.in-Ok.ensures.works
    c.args.checked.faults.items c.args.checked.«end» c.deref.result.now c.len.result _ c.deref.ensures.value counted c.in-Ok.ensures.written c.tell_end.ensures

pub returns : goal.returns
returns g c =
    part_told c.args.checked.faults.items c.args.checked.«end» (g.W.OctetWriter.state c.args.output.now) _ (g.E.OctetWriter.state c.args.errors.now) _
    c.deref.result.now c.in-Err.stop _ c.deref.ensures.value c.in-Err.ensures.part c.in-Err.ensures.failed c.report.ensures
