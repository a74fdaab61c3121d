use Rattle.zone_text.proofs.Heads.ClassWords.{class_word_of, class_word_known, class_word_first}
use Rattle.zone_text.proofs.laws.entry.class_words_are_known.Goals as goal

pub returns : goal.returns
returns c = record {
  word = λ text. (class_word_of text, λ is. class_word_known text is.0 is.1);
  no_ttl = class_word_first;
}
