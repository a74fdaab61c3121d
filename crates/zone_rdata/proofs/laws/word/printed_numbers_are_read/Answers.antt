use Rattle.zone_rdata.proofs.Common.{plain}
use Rattle.zone_rdata.proofs.Items.GenericLaws.{decimal-is}
use Rattle.zone_rdata.proofs.laws.word.printed_numbers_are_read.Goals as goal

pub returns-clause-decimal : goal.returns-clause-decimal
returns-clause-decimal c = decimal-is

pub returns-clause-time : goal.returns-clause-time
returns-clause-time c = λ n short. plain (decimal-is n short)
