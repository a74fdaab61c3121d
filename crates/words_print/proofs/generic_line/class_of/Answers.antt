use Rattle.std.proofs.Common.{subst}
use Rattle.zone_rdata.proofs.Words.OneWord.{class_word_once}
use Rattle.zone_rdata.specs.Words.{IsClass}
use Rattle.words_print.proofs.DataEnds.{none_weaker}
use Rattle.words_print.proofs.generic_line.class_of.Goals as goal

pub returns-in-Ok-clause-none : goal.returns-in-Ok-clause-none
returns-in-Ok-clause-none c = none_weaker c.in-Ok.class c.in-Ok.ensures.none (λ none n is _. none n is)

pub returns-in-Err-clause-none : goal.returns-in-Err-clause-none
returns-in-Err-clause-none c = λ n is class.
    let bad = c.in-Err.ensures.err.1 in
    bad.1.1 (subst IsClass (class_word_once c.args.word.now n bad.0 is bad.1.0) class)
