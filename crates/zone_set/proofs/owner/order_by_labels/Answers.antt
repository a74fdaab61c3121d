use Rattle.zone_name.proofs.InOctets.Comparing.{name_cmp-more, name_cmp-start}
use Rattle.zone_set.proofs.Common.{labels_of, ◌∙◌, ap, drop}
use Rattle.zone_set.proofs.Ordering.Owners.{labels_of-first}
use Rattle.zone_set.proofs.owner.order_by_labels.Goals as goal

pub loop-label-init : goal.loop-label-init
loop-label-init c =
    name_cmp-start (labels_of c.args.a.now) (labels_of c.args.b.now) (labels_of c.past-labels.result.now) (labels_of c.past-others.result.now) c.label_count-len.result c.label_count-other_len.result c.cmp-order.result
    c.label_count-len.ensures c.label_count-other_len.ensures
    (c.past-labels.ensures ∙ ap (λ n. drop n (labels_of c.args.a.now)) c.saturating_sub.ensures) (c.past-others.ensures ∙ ap (λ n. drop n (labels_of c.args.b.now)) c.saturating_sub-2.ensures)
    c.cmp-order.ensures

pub loop-label-preserved : goal.loop-label-preserved
loop-label-preserved c =
    name_cmp-more (labels_of c.loop-label.labels.now) (labels_of c.loop-label.others.now) (labels_of c.in-Some-Some.rest.now) (labels_of c.in-Some-Some.more.now) c.in-Some-Some.label.now c.in-Some-Some.other.now c.loop-label.order c.cmp.result c.then-order.result _
    (labels_of-first _ _ _ c.in-Some-Some.ensures.parts) (labels_of-first _ _ _ c.in-Some-Some.ensures'.parts) c.loop-label.invariant.0 c.cmp.ensures c.then-order.ensures c.loop-label.invariant.1
