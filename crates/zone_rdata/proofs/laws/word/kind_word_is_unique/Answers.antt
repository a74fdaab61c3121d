use Rattle.zone_rdata.proofs.Words.OneWord.{kind_word_once}
use Rattle.zone_rdata.proofs.laws.word.kind_word_is_unique.Goals as goal

pub returns : goal.returns
returns c = kind_word_once
