use Rattle.zone_set.proofs.Common.{labels_of, length, ◌+◌, ◌≡◌, ◌≤◌}
use Rattle.zone_set.proofs.owner.label_count.Given as goal

abbrev pub invariant-loop-rest : goal.invariant-loop-rest
invariant-loop-rest l =
    (l.count + length (labels_of l.left) ≡ length (labels_of l.fn.octets)) × (l.count + length l.left ≤ length l.fn.octets)

abbrev pub decreases-loop-rest : goal.decreases-loop-rest
decreases-loop-rest l = length l.left
