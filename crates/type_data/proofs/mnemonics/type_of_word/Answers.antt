use Rattle.type_data.proofs.OfKinds.Word.Once.{no_type, no_type_found, type_found}
use Rattle.type_data.proofs.mnemonics.type_of_word.Goals as goal

pub returns-in-Some-clause-found : goal.returns-in-Some-clause-found
returns-in-Some-clause-found c = type_found c.args.word.now c.in-Some.number c.number_of_kind.result c.in-Some.ensures.found c.number_of_kind.ensures.found

pub returns-in-Some-clause-none : goal.returns-in-Some-clause-none
returns-in-Some-clause-none c = no_type_found c.args.word.now c.in-Some.number c.number_of_kind.result c.in-Some.ensures.found c.number_of_kind.ensures.none

pub returns-in-None-clause-none : goal.returns-in-None-clause-none
returns-in-None-clause-none c = no_type c.args.word.now c.in-None.ensures.none
