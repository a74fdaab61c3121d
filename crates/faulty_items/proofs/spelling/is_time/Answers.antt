use Rattle.faulty_items.proofs.SpeltValues.{is_a_time, no_time, none_timed}
use Rattle.faulty_items.proofs.Common.{arith}
use Rattle.std.proofs.lemmas.Bool.{leb-false, leb-true}
use Rattle.faulty_items.proofs.spelling.is_time.Goals as goal

pub returns-in-Some-clause-yes : goal.returns-in-Some-clause-yes
returns-in-Some-clause-yes c = λ yes. is_a_time c.args.text.now c.in-Some.seconds (omega (arith, leb-true _ _ yes, c.from.ensures)) c.in-Some.ensures.found

pub returns-in-Some-clause-no : goal.returns-in-Some-clause-no
returns-in-Some-clause-no c = λ no. no_time c.args.text.now c.in-Some.seconds (omega (arith, leb-false _ _ no, c.from.ensures)) c.in-Some.ensures.found

pub returns-in-None-clause-no : goal.returns-in-None-clause-no
returns-in-None-clause-no c = λ no. none_timed c.args.text.now c.in-None.ensures.none
