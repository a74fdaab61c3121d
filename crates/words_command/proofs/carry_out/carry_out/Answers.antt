use Rattle.std.proofs.lemmas.Result.{err_from_is_err_and}
use Rattle.words_command.proofs.Told.{generic_done, generic_stops, none_told, shown_stops}
use Rattle.words_command.proofs.carry_out.carry_out.Goals as goal

pub returns-in-Generic-clause-done : goal.returns-in-Generic-clause-done
returns-in-Generic-clause-done g c = generic_done _ _ _ _ _ _ c.rewrite.result c.in-Generic.is c.rewrite.ensures.done

pub returns-in-Generic-clause-stopped : goal.returns-in-Generic-clause-stopped
returns-in-Generic-clause-stopped g c = generic_stops _ _ _ _ _ _ c.rewrite.result c.in-Generic.is c.rewrite.ensures.stopped

pub returns-in_err-show-in-Words-clause-stopped : goal.returns-in_err-show-in-Words-clause-stopped
returns-in_err-show-in-Words-clause-stopped g c =
    let p = err_from_is_err_and c.from_residual.result c.from_residual.ensures.1 in
    rw (p.1, p.2) (shown_stops _ _ _ _ _ _ c.in-Words.is c.in_err-show-in-Words.ensures.stopped)

pub returns-in_ok-show-in-Words-clause-done : goal.returns-in_ok-show-in-Words-clause-done
returns-in_ok-show-in-Words-clause-done g c = none_told _ _ _ _ _ c.in-Words.is c.in_ok-show-in-Words.ensures.done
