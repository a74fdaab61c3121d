use Rattle.std.proofs.Common.{sym, ◌∙◌}
use Rattle.zone_set.proofs.Hints.Numbers.{eights_first, then_apart, then_same}
use Rattle.zone_set.proofs.order.octet_order.Goals as goal

pub returns-then-x-y : goal.returns-then-x-y
returns-then-x-y c =
    c.cmp-then-x-y.ensures ∙ sym (then_apart c.from_be_bytes-x.result c.from_be_bytes-y.result _ c.if-x-y.true)
    ∙ sym (eights_first _ _ c.args.a.now c.args.b.now _ _ c.in-Some.more.now c.in-Some-split_first_chunk.others.now c.from_be_bytes-x.ensures c.from_be_bytes-y.ensures c.are_octets.ensures.each c.are_octets-2.ensures.each c.in-Some.ensures.cases c.in-Some-split_first_chunk.ensures.cases)

pub returns : goal.returns
returns c =
    c.cmp-2.ensures ∙ sym (then_same c.from_be_bytes-x.result c.from_be_bytes-y.result _ c.if-x-y.false)
    ∙ sym (eights_first _ _ c.args.a.now c.args.b.now _ _ c.in-Some.more.now c.in-Some-split_first_chunk.others.now c.from_be_bytes-x.ensures c.from_be_bytes-y.ensures c.are_octets.ensures.each c.are_octets-2.ensures.each c.in-Some.ensures.cases c.in-Some-split_first_chunk.ensures.cases)
