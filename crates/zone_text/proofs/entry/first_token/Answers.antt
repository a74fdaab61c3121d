use Rattle.zone_text.proofs.Common.{ap, arith, length, length-drop, sym, ◌∙◌}
use Rattle.zone_text.proofs.Tokens.FirstTokens.{begins_token, first_to_end, one_octet, whole_first}
use Rattle.zone_text.proofs.Tokens.Spans.{token_within}
use Rattle.zone_text.proofs.entry.first_token.Goals as goal

pub returns-then-is_between-clause-found : goal.returns-then-is_between-clause-found
returns-then-is_between-clause-found c = one_octet _ _ _ c.in_ok-first.ensures.cases.0 (sym c.is_between.ensures ∙ c.if-is_between.true)

pub returns-in-Whole-clause-found : goal.returns-in-Whole-clause-found
returns-in-Whole-clause-found c =
    let begins = begins_token _ _ _ c.in_ok-first.ensures.cases.0 (sym c.is_between.ensures ∙ c.if-is_between.false) in
    whole_first _ _ _ c.in-Whole.len _ ((rw c.in-Whole.is at c.token_span.ensures) begins) c.split_at.ensures.front c.split_at.ensures.back c.item_of.ensures

pub returns-in-Whole-clause-shorter : goal.returns-in-Whole-clause-shorter
returns-in-Whole-clause-shorter c =
    let begins = begins_token _ _ _ c.in_ok-first.ensures.cases.0 (sym c.is_between.ensures ∙ c.if-is_between.false) in
    let fits = token_within _ c.in-Whole.len ((rw c.in-Whole.is at c.token_span.ensures) begins) in
    omega (arith, fits.0, fits.1, ap length c.split_at.ensures.back, length-drop c.in-Whole.len c.args.text.now)

pub returns-clause-found : goal.returns-clause-found
returns-clause-found c = first_to_end _ _ _ c.token_span.ensures c.in_default.not-Whole (omega (arith, ap length c.in_ok-first.ensures.cases.0)) c.item_of-2.ensures
