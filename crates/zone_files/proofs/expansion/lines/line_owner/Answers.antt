use Rattle.zone_files.specs.Machine.Lines.{states}
use Rattle.zone_files.proofs.expansion.lines.line_owner.Goals as goal

pub returns-in-Some : goal.returns-in-Some
returns-in-Some c = states c.in-Some.owner.now c.in-Some.ensures.some c.spelled.ensures
