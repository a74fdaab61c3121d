use Rattle.zone_rdata.proofs.Words.OneWord.{class_word_once}
use Rattle.zone_rdata.proofs.laws.word.class_word_is_unique.Goals as goal

pub returns : goal.returns
returns c = class_word_once
