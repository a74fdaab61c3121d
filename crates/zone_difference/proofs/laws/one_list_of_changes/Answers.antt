use Rattle.zone_difference.proofs.OneList.{one_changes}
use Rattle.zone_difference.proofs.laws.one_list_of_changes.Goals as goal

pub returns : goal.returns
returns c = one_changes
