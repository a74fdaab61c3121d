use Rattle.zone_rdata.proofs.Words.OneWord.{kind_or_word_fault}
use Rattle.zone_rdata.proofs.laws.word.kind_word_or_fault.Goals as goal

pub returns : goal.returns
returns c = kind_or_word_fault
