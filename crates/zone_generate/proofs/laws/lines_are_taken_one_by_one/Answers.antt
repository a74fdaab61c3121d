use Rattle.zone_generate.proofs.ValueLines.{taken}
use Rattle.zone_generate.proofs.laws.lines_are_taken_one_by_one.Goals as goal

pub returns-clause-line : goal.returns-clause-line
returns-clause-line c = taken
