use Rattle.zone_words.proofs.Common.{ap, sym, ◌∙◌, ◌∷◌}
use Rattle.zone_words.proofs.KnownItems.{comment_passed, comment_there, item_first, none_first, one_between}
use Rattle.zone_words.proofs.known_items.past_token.Goals as goal

pub returns-in_err-first-clause-none : goal.returns-in_err-first-clause-none
returns-in_err-first-clause-none c = rw (c.from_residual.ensures) (none_first c.args.octets.now c.in_err-first.ensures.cases)

pub returns-then-is_between-clause-found : goal.returns-then-is_between-clause-found
returns-then-is_between-clause-found c = one_between c.args.octets.now c.in_ok-first.after.now c.in_ok-first.first.now c.in_ok-first.ensures.cases.0 (sym c.is_between.ensures ∙ c.if-is_between.true)

pub returns-then-first-eq59-clause-found : goal.returns-then-first-eq59-clause-found
returns-then-first-eq59-clause-found c = comment_passed c.args.octets.now c.in_ok-first.after.now c.past_comment.result (c.in_ok-first.ensures.cases.0 ∙ ap (λ d. d ∷ c.in_ok-first.after.now) c.if-first-eq59.true) c.past_comment.ensures.found

pub returns-then-first-eq59-clause-none : goal.returns-then-first-eq59-clause-none
returns-then-first-eq59-clause-none c = comment_there c.args.octets.now c.in_ok-first.after.now c.past_comment.result (c.in_ok-first.ensures.cases.0 ∙ ap (λ d. d ∷ c.in_ok-first.after.now) c.if-first-eq59.true) c.past_comment.ensures.none

pub returns-else-first-eq59-clause-none : goal.returns-else-first-eq59-clause-none
returns-else-first-eq59-clause-none c = item_first c.args.octets.now c.in_ok-first.after.now c.in_ok-first.first.now c.in_ok-first.ensures.cases.0 (sym c.is_between.ensures ∙ c.if-is_between.false) c.if-first-eq59.false
