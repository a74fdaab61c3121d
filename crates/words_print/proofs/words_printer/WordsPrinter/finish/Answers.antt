use Rattle.std.proofs.Common.{◌∙◌, ap}
use Rattle.words_print.proofs.Fed.{filled, last_ended}
use Rattle.words_print.specs.Printer.{PrinterState}
use Rattle.words_print.proofs.words_printer.WordsPrinter.finish.Goals as goal

pub returns-in-Ok-clause-text : goal.returns-in-Ok-clause-text
returns-in-Ok-clause-text c = λ fed given is.
    last_ended c.args.self.now c.end_line.new.self fed given
    (λ none. filled c.as_slice.result.now c.is_empty.result c.is_empty.ensures c.if-is_empty.false (c.as_slice.ensures.value ∙ ap (λ (p : PrinterState). p.waiting) c.self.view_is ∙ none))
    c.in-Ok.ensures.shown is
