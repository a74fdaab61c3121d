use Rattle.zone_text.proofs.Tokens.Spans.{bare_span}
use Rattle.zone_text.proofs.token.token_span.Goals as goal

pub returns-else-first-eq34 : goal.returns-else-first-eq34
returns-else-first-eq34 c =
    bare_span c.args.text.now c.in-Some.rest.now c.in-Some.first.now c.item_span.result c.in-Some.ensures.cases.0 c.if-first-eq59.false c.if-first-eq34.false c.item_span.ensures
