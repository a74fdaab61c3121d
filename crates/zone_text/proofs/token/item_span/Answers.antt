use Rattle.zone_text.proofs.Common.{arith, ends_within, refl}
use Rattle.zone_text.proofs.Tokens.Spans.{span_end, span_lost, span_open, span_whole, units_more}
use Rattle.zone_text.proofs.token.item_span.Goals as goal

pub loop-len-init : goal.loop-len-init
loop-len-init c = units_more (ends_within c.args.extent) c.args.text.now c.split_at.result.1.now c.args.known c.plain_len.result _ c.requires c.split_at.ensures.back c.plain_len.ensures.within c.plain_len.ensures.plain c.plain_len.ensures.stops refl

pub returns-then-text-len-ne92 : goal.returns-then-text-len-ne92
returns-then-text-len-ne92 c = span_whole (ends_within c.args.extent) c.args.text.now c.loop-len.len c.loop-len.invariant c.loop-len-test.true c.if-text-len-ne92.true

pub returns-in-Some-lost_len : goal.returns-in-Some-lost_len
returns-in-Some-lost_len c = span_lost (ends_within c.args.extent) c.args.text.now c.split_at-in-loop-len.result.1.now c.loop-len.len c.in-Some-lost_len.more _ c.loop-len.invariant c.loop-len-test.true c.if-text-len-ne92.false c.split_at-in-loop-len.ensures.back (rw c.in-Some-lost_len.is at (c.lost_len.ensures c.in_default.ensures.none)) refl

pub returns-in-None : goal.returns-in-None
returns-in-None c = span_open (ends_within c.args.extent) c.args.text.now c.split_at-in-loop-len.result.1.now c.loop-len.len c.loop-len.invariant c.loop-len-test.true c.if-text-len-ne92.false c.split_at-in-loop-len.ensures.back (rw c.in-None.is at (c.lost_len.ensures c.in_default.ensures.none))

pub returns : goal.returns
returns c = span_end (ends_within c.args.extent) c.args.text.now c.loop-len.len c.loop-len.invariant (omega (arith, c.loop-len-test.false))
