use Rattle.faulty_items.proofs.SpeltValues.{no_name}
use Rattle.faulty_items.proofs.spelling.is_name.Goals as goal

pub returns-in-Err-clause-no : goal.returns-in-Err-clause-no
returns-in-Err-clause-no c = λ no name spelt. no_name c.from_text.result c.in-Err.field-0 name c.in-Err.is (c.from_text.ensures.only name spelt)
