use Rattle.std.proofs.Common.{length}
use Rattle.words_print.proofs.Fed.{TakesTo}
use Rattle.words_print.proofs.words_printer.WordsPrinter.take.Given as goal

abbrev pub invariant-loop-end : goal.invariant-loop-end
invariant-loop-end l = TakesTo l.fn.self l.self l.piece l.rest

abbrev pub decreases-loop-end : goal.decreases-loop-end
decreases-loop-end l = length l.rest
