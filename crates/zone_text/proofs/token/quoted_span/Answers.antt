use Rattle.zone_text.proofs.Common.{refl}
use Rattle.zone_text.proofs.Tokens.Spans.{quoted_lost, quoted_open, quoted_whole}
use Rattle.zone_text.proofs.token.quoted_span.Goals as goal

pub returns-in-Whole : goal.returns-in-Whole
returns-in-Whole c = quoted_whole c.args.inside.now c.in-Whole.len _ (rw c.in-Whole.is at c.item_span.ensures) refl

pub returns-in-Open : goal.returns-in-Open
returns-in-Open c = quoted_open c.args.inside.now c.in-Open.len _ (rw c.in-Open.is at c.item_span.ensures) refl

pub returns-in-Lost : goal.returns-in-Lost
returns-in-Lost c = quoted_lost c.args.inside.now c.in-Lost.len _ (rw c.in-Lost.is at c.item_span.ensures) refl
