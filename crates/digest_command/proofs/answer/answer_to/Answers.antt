use Rattle.std.proofs.Common.{ap, ◌∙◌}
use Rattle.std.proofs.lemmas.Result.{err_from_is_err_and}
use Rattle.zone_engine.specs.Form.{read_as_with}
use Rattle.digest_command.proofs.Answering.{answered_by, if_err, if_ok, not_read, not_told}
use Rattle.digest_command.proofs.answer.answer_to.Goals as goal

pub returns-in_err-zone-clause-stopped : goal.returns-in_err-zone-clause-stopped
returns-in_err-zone-clause-stopped g c =
    let is = c.with_origin.ensures ∙ ap read_as_with c.origin_of.ensures in
    let p = err_from_is_err_and c.from_residual.result c.from_residual.ensures.1 in
    rw (p.1, p.2) (not_read c.args.order.now _ is _ _ _ c.in_err-zone.ensures.stopped c.in_err-zone.ensures.read)

pub returns-clause-answered : goal.returns-clause-answered
returns-clause-answered g c =
    let is = c.with_origin.ensures ∙ ap read_as_with c.origin_of.ensures in
    if_ok c.answer_about.result _ _ (λ answer about. answered_by c.args.order.now _ is _ c.in_ok-zone.zone answer.text.items answer.status c.in_ok-zone.ensures.zone about) c.answer_about.ensures.answered

pub returns-clause-stopped : goal.returns-clause-stopped
returns-clause-stopped g c =
    let is = c.with_origin.ensures ∙ ap read_as_with c.origin_of.ensures in
    if_err c.answer_about.result _ _ (λ stop out. not_told c.args.order.now _ is _ _ c.in_ok-zone.zone stop c.in_ok-zone.ensures.zone c.in_ok-zone.ensures.read out) c.answer_about.ensures.memory
