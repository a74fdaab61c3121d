use Rattle.zone_rdata.proofs.Words.OneWord.{class_or_not}
use Rattle.zone_rdata.proofs.laws.word.class_word_or_none.Goals as goal

pub returns : goal.returns
returns c = class_or_not
