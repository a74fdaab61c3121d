use Rattle.zone_set.proofs.Common.{AllByRecursion, AreNeighbours, IsEntry, IsPermutation, all_records, length, take, ◌-◌, ◌≡◌, ◌≤◌}
use Rattle.zone_set.proofs.bulk.put_few.Given as goal

abbrev pub ghost-put_last : goal.ghost-put_last
ghost-put_last g a = g.base

-- the entries were moved, and those that were put are neighbours, if those before are
abbrev pub invariant-loop-put : goal.invariant-loop-put
invariant-loop-put g l =
    (l.put ≤ length l.entries) × (length l.entries ≡ length l.initial.entries)
    × IsPermutation l.initial.entries l.entries
    × AllByRecursion (IsEntry g.base l.class l.octets) l.entries
    × (AreNeighbours (all_records l.class l.octets (take l.start l.initial.entries)) → AreNeighbours (all_records l.class l.octets (take l.put l.entries)))

abbrev pub decreases-loop-put : goal.decreases-loop-put
decreases-loop-put g l = length l.initial.entries - l.put
