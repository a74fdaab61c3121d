use Rattle.std.proofs.Common.{ap}
use Rattle.words_print.proofs.Fed.{part_again}
use Rattle.words_print.specs.Printer.{PrinterState}
use Rattle.words_print.proofs.words_printer.WordsPrinter.feed.Goals as goal

pub returns-in-Err-clause-in_part : goal.returns-in-Err-clause-in_part
returns-in-Err-clause-in_part c = λ fed given is. part_again c.take.new.self _ _ given (ap (λ (p : PrinterState). p.written) c.self-2.view_is) (c.in-Err.ensures.in_part fed given is)
