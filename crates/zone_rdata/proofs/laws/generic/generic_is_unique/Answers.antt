use Rattle.zone_rdata.proofs.Items.GenericLaws.{generic_once}
use Rattle.zone_rdata.proofs.laws.generic.generic_is_unique.Goals as goal

pub returns : goal.returns
returns c = generic_once
