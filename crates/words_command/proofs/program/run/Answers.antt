use Rattle.words_command.specs.Run as runs
use Rattle.words_command.proofs.program.run.Goals as goal

pub returns-in-Ok : goal.returns-in-Ok
returns-in-Ok g c =
    let d = c.in-Ok.ensures.done in
    runs.done d.0 c.in-Ok.refusals _ d.2 d.1 c.tell_refusals.ensures

pub returns-in-Err : goal.returns-in-Err
returns-in-Err g c =
    runs.stopped c.in-Err.failure _ c.in-Err.ensures.stopped (rw (← c.text.ensures) c.tell.ensures)
