use Rattle.zone_set.proofs.Common.{AllByRecursion, AreNeighbours, IsEntry, all_records, length, ◌∷◌}
use Rattle.zone_set.proofs.bulk.neighbour_order.Given as goal

abbrev pub ghost-standing : goal.ghost-standing
ghost-standing g a = g.base

-- if the last entry looked at and those that are left are neighbours, all are
abbrev pub invariant-loop-next : goal.invariant-loop-next
invariant-loop-next g l =
    AllByRecursion (IsEntry g.base l.class l.octets) (l.last ∷ l.left)
    × (AreNeighbours (all_records l.class l.octets (l.last ∷ l.left)) → AreNeighbours (all_records l.class l.octets l.fn.entries))

abbrev pub decreases-loop-next : goal.decreases-loop-next
decreases-loop-next g l = length l.left
