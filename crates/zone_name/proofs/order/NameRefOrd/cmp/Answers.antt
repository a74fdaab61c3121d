use Rattle.std.proofs.Common.{ap, ◌∙◌, length}
use Rattle.zone_name.proofs.InOctets.Comparing.{name_cmp-more, name_cmp-start}
use Rattle.zone_name.proofs.order.NameRefOrd.cmp.Goals as goal

pub loop-label-init : goal.loop-label-init
loop-label-init c =
    name_cmp-start c.args.self.now c.args.other.now c.past-labels.result c.past-others.result c.len-len.result c.len-other_len.result c.cmp-order.result
    (c.len-len.ensures.value ∙ ap length c.labels.ensures.value) (c.len-other_len.ensures.value ∙ ap length c.labels-2.ensures.value)
    (cc (c.past-labels.ensures, c.labels-3.ensures.value, c.saturating_sub.ensures)) (cc (c.past-others.ensures, c.labels-4.ensures.value, c.saturating_sub-2.ensures))
    c.cmp-order.ensures

pub loop-label-preserved : goal.loop-label-preserved
loop-label-preserved c =
    name_cmp-more c.loop-label.labels c.loop-label.others c.next.new.self c.next-in-loop-label.new.self c.in-Some-Some.label.now c.in-Some-Some.other.now c.loop-label.order c.cmp.result c.then-order.result _
    c.in-Some-Some.ensures.steps c.in-Some-Some.ensures'.steps c.loop-label.invariant.0 c.cmp.ensures c.then-order.ensures c.loop-label.invariant.1
