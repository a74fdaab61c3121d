use Rattle.type_data.proofs.FurtherWords.{further_found, no_further_found}
use Rattle.type_data.proofs.Registered.{registered_further}
use Rattle.type_data.proofs.table.further_type_of.Goals as goal

pub returns-in-Some-clause-found : goal.returns-in-Some-clause-found
returns-in-Some-clause-found c = further_found c.args.word.now c.in-Some.number c.further_type_counted.result c.in-Some.ensures.found c.further_type_counted.ensures

pub returns-in-Some-clause-none : goal.returns-in-Some-clause-none
returns-in-Some-clause-none c = no_further_found c.args.word.now c.in-Some.number c.further_type_counted.result c.in-Some.ensures.found c.further_type_counted.ensures

pub returns-in-None-clause-none : goal.returns-in-None-clause-none
returns-in-None-clause-none c = λ f p. c.in-None.ensures.none f.number (registered_further c.args.word.now f.number p.named)
