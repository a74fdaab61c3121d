use Rattle.zone_rdata.proofs.Items.GenericLaws.{decimal_or_not}
use Rattle.zone_rdata.proofs.Numbers.TimeLaws.{time_or_not}
use Rattle.zone_rdata.proofs.laws.word.numbers_and_times_are_decided.Goals as goal

pub returns-clause-decimal : goal.returns-clause-decimal
returns-clause-decimal c = decimal_or_not

pub returns-clause-time : goal.returns-clause-time
returns-clause-time c = time_or_not
