use Rattle.faulty_items.proofs.EntryParts.{never_valued, no_class_value, no_class_word}
use Rattle.faulty_items.proofs.entry.class_of.Goals as goal

pub returns-in-Ok-None : goal.returns-in-Ok-None
returns-in-Ok-None c = never_valued c.args.held c.args.held c.args.word c.in-Some.word c.in-Some.is (no_class_word c.in-Some.word.now (rw c.in-Ok-None.field-0-is at c.in-Ok-None.ensures.none))

pub returns-in-Err : goal.returns-in-Err
returns-in-Err c = never_valued c.args.held c.args.held c.args.word c.in-Some.word c.in-Some.is (let bad = c.in-Err.ensures.err.1 in no_class_value c.in-Some.word.now bad.0 bad.1.0 bad.1.1)
