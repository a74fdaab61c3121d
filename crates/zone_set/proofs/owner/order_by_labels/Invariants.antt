use Rattle.zone_set.proofs.Common.{labels_of, length, name_cmp, ordering_then, ◌≡◌}
use Rattle.zone_set.proofs.owner.order_by_labels.Given as goal

abbrev pub invariant-loop-label : goal.invariant-loop-label
invariant-loop-label l =
    (length (labels_of l.labels) ≡ length (labels_of l.others))
    × (ordering_then (name_cmp (labels_of l.labels) (labels_of l.others)) l.order ≡ name_cmp (labels_of l.fn.a) (labels_of l.fn.b))

abbrev pub decreases-loop-label : goal.decreases-loop-label
decreases-loop-label l = length l.labels
