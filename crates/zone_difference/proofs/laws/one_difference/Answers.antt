use Rattle.zone_difference.proofs.OneDifference.{one_difference}
use Rattle.zone_difference.proofs.laws.one_difference.Goals as goal

pub returns : goal.returns
returns c = one_difference
