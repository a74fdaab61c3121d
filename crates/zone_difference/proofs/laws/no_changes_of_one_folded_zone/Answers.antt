use Rattle.zone_difference.proofs.Alike.{none_of_one_folded}
use Rattle.zone_difference.proofs.laws.no_changes_of_one_folded_zone.Goals as goal

pub returns : goal.returns
returns c = none_of_one_folded
