use Rattle.zone_rdata.proofs.Numbers.TimeLaws.{one_time}
use Rattle.zone_rdata.proofs.laws.word.time_is_unique.Goals as goal

pub returns : goal.returns
returns c = one_time
