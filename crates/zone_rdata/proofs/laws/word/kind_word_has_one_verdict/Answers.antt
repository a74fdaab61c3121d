use Rattle.zone_rdata.proofs.Words.OneWord.{kind_fault_once, kind_or_fault}
use Rattle.zone_rdata.proofs.laws.word.kind_word_has_one_verdict.Goals as goal

pub returns : goal.returns
returns c = record { never_both = kind_or_fault; one_fault = kind_fault_once }
