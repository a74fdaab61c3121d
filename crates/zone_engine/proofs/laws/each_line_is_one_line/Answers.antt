use Rattle.zone_engine.proofs.Telling.{line_of_records}
use Rattle.zone_engine.proofs.laws.each_line_is_one_line.Goals as goal

pub returns-clause-records : goal.returns-clause-records
returns-clause-records c = line_of_records
