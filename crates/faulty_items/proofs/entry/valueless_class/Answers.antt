use Rattle.faulty_items.proofs.EntryParts.{no_class_value, stated_text}
use Rattle.faulty_items.proofs.entry.valueless_class.Goals as goal

pub returns-in-Err-clause-found : goal.returns-in-Err-clause-found
returns-in-Err-clause-found c = (
  stated_text c.args.word c.in_ok-stated.stated c.in_ok-stated.was,
  let bad = c.in-Err.ensures.err.1 in no_class_value c.in_ok-stated.stated.now bad.0 bad.1.0 bad.1.1,
)
