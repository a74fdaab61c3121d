use Rattle.zone_text.proofs.Common.{ap, take, ◌∙◌}
use Rattle.zone_text.proofs.Tokens.Spans.{comment_item, quoted_item}
use Rattle.zone_text.proofs.token.item_of.Goals as goal

pub returns-in-Some-eq59-default : goal.returns-in-Some-eq59-default
returns-in-Some-eq59-default c =
    comment_item c.args.token.now c.in-Some-eq59-default.field-0-1.now c.in-Some-eq59-default.field-0-0.now c.in-Some-eq59-default.ensures.cases.0 c.in-Some-eq59-default.field-0-0-test

pub returns-in-Some-eq34-default : goal.returns-in-Some-eq34-default
returns-in-Some-eq34-default c =
    quoted_item c.args.token.now c.in-Some-eq34-default.ended.now c.split_at.result.0.now c.in-Some-eq34-default.field-0-0.now c.in-Some-eq34-default.ensures.cases.0 c.in-Some-eq34-default.field-0-0-test (c.split_at.ensures.front ∙ ap (λ n. take n c.in-Some-eq34-default.ended.now) c.saturating_sub.ensures)
