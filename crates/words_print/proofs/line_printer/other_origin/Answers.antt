use Rattle.words_print.proofs.Origins.{x_spelled}
use Rattle.words_print.proofs.line_printer.other_origin.Goals as goal

pub returns : goal.returns
returns c = (c.set_from_text.ensures.only _ x_spelled).1
