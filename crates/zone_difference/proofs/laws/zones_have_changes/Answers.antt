use Rattle.zone_difference.proofs.HaveChanges.{zones_have_changes}
use Rattle.zone_difference.proofs.laws.zones_have_changes.Goals as goal

pub returns : goal.returns
returns c = zones_have_changes
