use Rattle.zone_difference.proofs.OneList.{other_way}
use Rattle.zone_difference.proofs.laws.changes_the_other_way.Goals as goal

pub returns : goal.returns
returns c = other_way
