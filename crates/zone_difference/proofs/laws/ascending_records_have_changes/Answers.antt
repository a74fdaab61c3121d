use Rattle.zone_difference.proofs.HaveChanges.{have_changes}
use Rattle.zone_difference.proofs.laws.ascending_records_have_changes.Goals as goal

pub returns : goal.returns
returns c = have_changes
