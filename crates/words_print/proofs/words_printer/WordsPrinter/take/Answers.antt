use Rattle.std.proofs.Common.{ap}
use Rattle.zone_words.proofs.FedTexts.{on_err}
use Rattle.words_print.proofs.Fed.{takes_line, takes_part}
use Rattle.words_print.specs.Printer.{PrinterState}
use Rattle.words_print.proofs.words_printer.WordsPrinter.take.Goals as goal

pub returns-in_err-end_line-clause-in_part : goal.returns-in_err-end_line-clause-in_part
returns-in_err-end_line-clause-in_part c = on_err _ (takes_part c.args.self.now c.loop-end.self c.end_line.new.self c.args.piece.now c.loop-end.rest.now c.loop-end.invariant c.in_err-end_line.ensures.written)

pub loop-end-preserved : goal.loop-end-preserved
loop-end-preserved c = takes_line c.args.self.now c.loop-end.self c.end_line.new.self c.args.piece.now c.loop-end.rest.now c.in-Some.end.now c.in-Some.after.now c.loop-end.invariant c.in-Some.ensures.found c.in_ok-end_line.ensures.shown c.in_ok-end_line.ensures.none c.in_ok-end_line.ensures.same

pub returns-clause-in_part : goal.returns-clause-in_part
returns-clause-in_part c = on_err _ (takes_part c.args.self.now c.loop-end.self _ c.args.piece.now c.loop-end.rest.now c.loop-end.invariant (ap (λ (p : PrinterState). p.written) c.self.view_is))
