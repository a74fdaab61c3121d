use Rattle.zone_difference.proofs.OneDifference.{patched}
use Rattle.zone_difference.proofs.laws.a_patched_zone_is_the_other.Goals as goal

pub returns : goal.returns
returns c = patched
