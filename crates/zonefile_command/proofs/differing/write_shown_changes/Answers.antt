use Rattle.zonefile_command.proofs.Shown.{unmade_changes}
use Rattle.zonefile_command.proofs.differing.write_shown_changes.Goals as goal

pub returns-in_err-differ-clause-stopped : goal.returns-in_err-differ-clause-stopped
returns-in_err-differ-clause-stopped g c =
    unmade_changes c.args.case c.args.zone.now c.args.other.now _ c.from_residual.result c.in_err-differ.field-0.0 c.from_residual.ensures.1 c.in_err-differ.ensures.memory
