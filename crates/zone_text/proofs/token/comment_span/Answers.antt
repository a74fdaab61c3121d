use Rattle.zone_text.proofs.Common.{arith, refl, subst, sym, ◌∙◌}
use Rattle.zone_text.proofs.Scanning.StopMarks.{before_len}
use Rattle.zone_text.proofs.Tokens.Spans.{comment_is_open, comment_is_whole}
use Rattle.zone_text.specs.Machine.Spans.{IsSeenComment}
use Rattle.zone_text.proofs.token.comment_span.Goals as goal

pub returns-then-len-note : goal.returns-then-len-note
returns-then-len-note c =
    comment_is_whole c.args.note.now c.split_at.result.1.now c.saturating_sub-known.result c.len_until.result _ (subst (IsSeenComment c.args.note.now) (sym c.saturating_sub-known.ensures) c.requires) c.split_at.ensures.back (c.len_until.ensures.len ∙ before_len c.split_at.result.1.now) c.if-len-note.true refl

pub returns-else-len-note : goal.returns-else-len-note
returns-else-len-note c =
    comment_is_open c.args.note.now c.split_at.result.1.now c.saturating_sub-known.result c.len_until.result _ (subst (IsSeenComment c.args.note.now) (sym c.saturating_sub-known.ensures) c.requires) c.split_at.ensures.back (c.len_until.ensures.len ∙ before_len c.split_at.result.1.now) (omega (arith, c.if-len-note.false)) refl c.len_until.ensures.within
