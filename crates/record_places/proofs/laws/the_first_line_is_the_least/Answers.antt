use Rattle.record_places.proofs.Least.{least_line}
use Rattle.record_places.proofs.laws.the_first_line_is_the_least.Goals as goal

pub returns : goal.returns
returns c = least_line
