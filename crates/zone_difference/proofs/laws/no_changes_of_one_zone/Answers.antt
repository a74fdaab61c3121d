use Rattle.zone_difference.proofs.OneList.{none_of_one_zone}
use Rattle.zone_difference.proofs.laws.no_changes_of_one_zone.Goals as goal

pub returns : goal.returns
returns c = none_of_one_zone
