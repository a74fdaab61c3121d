use Rattle.std.proofs.KnownBytes.{Keeps-refl}
use Rattle.command_input.specs.Answering.{answered}
use Rattle.command_input.proofs.Answering.{not_answered}
use Rattle.command_input.proofs.telling.answer_line.Goals as goal

pub returns-in-Ok : goal.returns-in-Ok
returns-in-Ok g c = answered c.in-Ok.ensures.written c.in-Ok.ensures.works (Keeps-refl _, λ w. w)

pub returns-in-Err : goal.returns-in-Err
returns-in-Err g c = not_answered _ _ _ _ _ _ c.in-Err.stop _ c.in-Err.ensures.part c.in-Err.ensures.failed c.report.ensures
