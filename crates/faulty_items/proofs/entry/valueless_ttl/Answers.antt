use Rattle.faulty_items.proofs.EntryParts.{stated_text, ttl_has}
use Rattle.faulty_items.proofs.entry.valueless_ttl.Goals as goal

pub returns-in-Some-clause-none : goal.returns-in-Some-clause-none
returns-in-Some-clause-none c = ttl_has c.args.text c.in_ok-stated.stated c.in_ok-stated.was (c.in-Some.field-0, c.in-Some.ensures.some)

pub returns-in-None-clause-found : goal.returns-in-None-clause-found
returns-in-None-clause-found c = (stated_text c.args.text c.in_ok-stated.stated c.in_ok-stated.was, λ has. c.in-None.ensures.none has.0 has.1)
