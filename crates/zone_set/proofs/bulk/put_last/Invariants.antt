use Rattle.zone_set.proofs.Common.{AllByRecursion, AreNeighbours, IsEntry, IsPermutation, all_records, drop, length, suc, take, ◌++◌, ◌-◌, ◌≡◌, ◌≤◌}
use Rattle.zone_set.proofs.bulk.put_last.Given as goal

abbrev pub ghost-standing : goal.ghost-standing
ghost-standing g a = g.base

-- the entries were moved, those beside this one are the same, and those from it on are neighbours
abbrev pub invariant-loop-at : goal.invariant-loop-at
invariant-loop-at g l =
    let others = take (length l.initial.entries - 1) l.initial.entries in
    (l.at ≤ length l.entries - 1) × IsPermutation l.initial.entries l.entries
    × AllByRecursion (IsEntry g.base l.class l.octets) l.entries
    × (take l.at l.entries ++ drop (suc l.at) l.entries ≡ others)
    × (AreNeighbours (all_records l.class l.octets others) → AreNeighbours (all_records l.class l.octets (drop l.at l.entries)))

abbrev pub decreases-loop-at : goal.decreases-loop-at
decreases-loop-at g l = l.at
