use Rattle.zone_rdata.proofs.Strings.StringLaws.{string-once}
use Rattle.zone_rdata.proofs.laws.string.string_is_unique.Goals as goal

pub returns : goal.returns
returns c = string-once
