use Rattle.words_print.proofs.DataEnds.{no_before, no_stem, no_worded, nothing_back}
use Rattle.words_print.proofs.Fed.{filled}
use Rattle.words_print.proofs.generic_line.cut_line.Goals as goal

pub returns-in_err-before-clause-none : goal.returns-in_err-before-clause-none
returns-in_err-before-clause-none c =
    rw c.from_residual.ensures
    (λ stem word form end cut. no_before c.args.line.now stem word form end c.split_end.result.0.now c.split_end.result.1.now cut c.split_end.ensures c.in_err-before.ensures.none)

pub returns-in_err-worded-clause-none : goal.returns-in_err-worded-clause-none
returns-in_err-worded-clause-none c =
    rw c.from_residual-in_err-worded.ensures
    (λ stem word form end cut. no_worded c.args.line.now c.split_end.result.0.now c.split_end.result.1.now c.in_ok-before.before.now c.in_ok-before.form.now c.split_end.ensures c.in_ok-before.ensures.some stem word form end cut c.in_err-worded.ensures.none)

pub returns-then-not-is_empty-clause-none : goal.returns-then-not-is_empty-clause-none
returns-then-not-is_empty-clause-none c =
    λ stem word form end cut. nothing_back c.args.line.now c.split_end.result.0.now c.split_end.result.1.now c.in_ok-before.before.now c.in_ok-before.form.now c.split_end.ensures c.in_ok-before.ensures.some stem word form end cut c.in_ok-worded.worded.now c.in_ok-worded.back.now c.in_ok-worded.ensures.some
    (filled c.in_ok-worded.back.now c.is_empty.result c.is_empty.ensures c.if-not-is_empty.true)

pub returns-in_err-stem-clause-none : goal.returns-in_err-stem-clause-none
returns-in_err-stem-clause-none c =
    rw c.from_residual-in_err-stem.ensures
    (λ stem word form end cut. no_stem c.args.line.now c.split_end.result.0.now c.split_end.result.1.now c.in_ok-before.before.now c.in_ok-before.form.now c.split_end.ensures c.in_ok-before.ensures.some stem word form end cut c.in_ok-worded.worded.now c.in_ok-worded.back.now c.in_ok-worded.ensures.some c.in_err-stem.ensures.none)
