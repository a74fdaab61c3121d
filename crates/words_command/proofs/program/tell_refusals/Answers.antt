use Rattle.words_command.proofs.Told.{nothing_told, line_told}
use Rattle.words_command.proofs.program.tell_refusals.Goals as goal

pub returns-in-None : goal.returns-in-None
returns-in-None g c = nothing_told c.args.refusals.now _ c.in-None.is

pub returns-in-Some : goal.returns-in-Some
returns-in-Some g c =
    line_told c.args.refusals.now _ c.refusals_line.result _ _ _ c.in-Some.is c.refusals_line.ensures c.tell_line.ensures.told c.tell_line.ensures.untold
