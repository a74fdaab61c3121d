use Rattle.std.proofs.lemmas.Result.{err_from_is_err_and}
use Rattle.zone_words.specs.Stopped.{ends_inside, stopped_line}
use Rattle.words_command.proofs.Halting.{[], refl, stopped_alike}
use Rattle.words_command.proofs.LastLines.{apart}
use Rattle.words_command.specs.Run.{rewriting}
use Rattle.words_command.proofs.Filters.{rewrites, rewritten_whole}
use Rattle.words_command.proofs.carry_out.rewrite.Goals as goal

pub returns-in_err-filter_all-clause-stopped : goal.returns-in_err-filter_all-clause-stopped
returns-in_err-filter_all-clause-stopped g c =
    let origin = c.args.origin.now in
    let new = c.new-rewriter in
    let p = err_from_is_err_and c.from_residual.result c.from_residual.ensures.1 in
    rw (p.1, p.2) (stopped_alike (rewriting origin) _ stopped_line _ _ _ _ _ (λ text. apart (ends_inside text) _ _ refl) (c.in_err-filter_all.ensures.stopped origin (rewrites origin new.result [] [] new.ensures.stands new.ensures.going)))

pub returns-clause-done : goal.returns-clause-done
returns-clause-done g c =
    let origin = c.args.origin.now in
    let new = c.new-rewriter in
    rewritten_whole origin _ _ _ _ _ _ c.refusals.ensures (c.in_ok-filter_all.ensures.done origin (rewrites origin new.result [] [] new.ensures.stands new.ensures.going))
