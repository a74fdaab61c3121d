use Rattle.zone_rdata.proofs.Common.{◌∷◌, sym, ap, ◌∙◌, arith, if_none_any}
use Rattle.zone_rdata.proofs.Octets.Sent.{cut_more, no_first, no_room, no_label}
use Rattle.zone_rdata.proofs.field.name.name_at.Goals as goal

pub returns-in_err-first-clause-none : goal.returns-in_err-first-clause-none
returns-in_err-first-clause-none c = if_none_any c.from_residual.result _ (no_first c.args.octets.now c.loop-first.rest.now c.loop-first.labels c.loop-first.invariant c.in_err-first.ensures.cases)

pub returns-then-following-count-clause-none : goal.returns-then-following-count-clause-none
returns-then-following-count-clause-none c =
    no_room c.args.octets.now c.loop-first.rest.now c.loop-first.labels c.from-count.result c.in_ok-first.following.now c.loop-first.invariant (c.in_ok-first.ensures.cases.0 ∙ ap (λ n. n ∷ c.in_ok-first.following.now) (sym c.from-count.ensures)) (omega (arith, c.if-count-eq0.false)) c.if-following-count.true

pub loop-first-preserved : goal.loop-first-preserved
loop-first-preserved c =
    cut_more c.args.octets.now c.loop-first.rest.now c.loop-first.labels c.push_label.new.self c.from-count.result c.in_ok-first.following.now c.split_at.result.0.now c.split_at.result.1.now c.loop-first.invariant (c.in_ok-first.ensures.cases.0 ∙ ap (λ n. n ∷ c.in_ok-first.following.now) (sym c.from-count.ensures)) (omega (arith, c.if-count-eq0.false)) c.if-following-count.false c.split_at.ensures.front c.split_at.ensures.back c.in-Ok.ensures.ok

pub returns-in-Err-clause-none : goal.returns-in-Err-clause-none
returns-in-Err-clause-none c =
    no_label c.args.octets.now c.loop-first.rest.now c.loop-first.labels c.from-count.result c.in_ok-first.following.now c.split_at.result.0.now c.in-Err.field-0 c.push_label.result c.loop-first.invariant (c.in_ok-first.ensures.cases.0 ∙ ap (λ n. n ∷ c.in_ok-first.following.now) (sym c.from-count.ensures)) (omega (arith, c.if-count-eq0.false)) c.if-following-count.false c.split_at.ensures.front c.in-Err.is c.in-Err.ensures.only c.push_label.ensures.empty c.push_label.ensures.long c.push_label.ensures.too_long
