use Rattle.zone_rdata.proofs.Items.GenericLaws.{generic_or_fault}
use Rattle.zone_rdata.proofs.laws.generic.generic_or_fault.Goals as goal

pub returns : goal.returns
returns c = generic_or_fault
