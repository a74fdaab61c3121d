use Rattle.std.proofs.Common.{refl}
use Rattle.words_print.proofs.Fed.{stands_new}
use Rattle.words_print.proofs.words_printer.WordsPrinter.new.Goals as goal

pub returns-clause-stands : goal.returns-clause-stands
returns-clause-stands c = stands_new _ refl c.new-2.ensures.items c.new-3.ensures.items
