use Rattle.zone_text.proofs.Common.{is_class_word, refl, sym}
use Rattle.zone_text.proofs.Heads.ClassWords.{class_word_known}
use Rattle.zone_text.proofs.Heads.WordsLeft.{no_class_word}
use Rattle.zone_text.proofs.parts.is_class_word.Goals as goal

pub returns-in-Ok-None : goal.returns-in-Ok-None
returns-in-Ok-None c = sym (no_class_word c.args.text.now (is_class_word c.args.text.now) refl (rw c.in-Ok-None.field-0-is at c.in-Ok-None.ensures.none))

pub returns-in-Ok-Some : goal.returns-in-Ok-Some
returns-in-Ok-Some c = sym (class_word_known c.args.text.now _ (rw c.in-Ok-Some.field-0-is at c.in-Ok-Some.ensures.found))

pub returns-in-Err : goal.returns-in-Err
returns-in-Err c = let bad = c.in-Err.ensures.err in sym (class_word_known c.args.text.now bad.1.0 bad.1.1.0)
