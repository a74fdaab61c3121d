use Rattle.zone_rdata.proofs.Strings.StringLaws.{fault-once}
use Rattle.zone_rdata.proofs.laws.string.string_fault_is_unique.Goals as goal

pub returns : goal.returns
returns c = fault-once
