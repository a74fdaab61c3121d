use Rattle.std.proofs.lemmas.Result.{err_from_is_err_and}
use Rattle.zone_words.specs.Stopped.{ends_inside}
use Rattle.words_command.proofs.Halting.{refl, stopped_alike}
use Rattle.words_command.proofs.LastLines.{none}
use Rattle.words_command.specs.Run.{no_line, showing}
use Rattle.words_command.proofs.carry_out.show.Goals as goal

pub returns-in_err-filter_all-clause-stopped : goal.returns-in_err-filter_all-clause-stopped
returns-in_err-filter_all-clause-stopped g c =
    let p = err_from_is_err_and c.from_residual.result c.from_residual.ensures.1 in
    rw (p.1, p.2) (stopped_alike showing _ no_line _ _ _ _ _ (λ text. none (ends_inside text) _ _ refl refl) (c.in_err-filter_all.ensures.stopped tt c.new-printer.ensures.stands))

pub returns-clause-done : goal.returns-clause-done
returns-clause-done g c = c.in_ok-filter_all.ensures.done tt c.new-printer.ensures.stands
