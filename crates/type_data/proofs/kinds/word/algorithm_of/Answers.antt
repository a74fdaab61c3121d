use Rattle.type_data.proofs.OfKinds.Word.Once.{a_further_algorithm, no_algorithm}
use Rattle.type_data.proofs.kinds.word.algorithm_of.Goals as goal

pub returns-in-None-clause-found : goal.returns-in-None-clause-found
returns-in-None-clause-found c = a_further_algorithm c.args.text.now c.number_of_word-in-None.result c.number_of_word-in-None.ensures.found

pub returns-in-None-clause-none : goal.returns-in-None-clause-none
returns-in-None-clause-none c = no_algorithm c.args.text.now c.number_of_word-in-None.result c.in-None.ensures.none c.number_of_word-in-None.ensures.none
