use Rattle.zone_set.proofs.Common.{AllByRecursion, AreNeighbours, IsEntry, IsPermutation, all_records, length, take, ◌-◌, ◌≡◌, ◌≤◌}
use Rattle.zone_set.proofs.bulk.put_runs.Given as goal

abbrev pub ghost-put_run : goal.ghost-put_run
ghost-put_run g a = g.base

-- the entries were moved, and those that were put are neighbours
abbrev pub invariant-loop-hint : goal.invariant-loop-hint
invariant-loop-hint g l =
    (l.start ≤ length l.entries) × (length l.entries ≡ length l.initial.entries)
    × IsPermutation l.initial.entries l.entries
    × AllByRecursion (IsEntry g.base l.class l.octets) l.entries
    × AreNeighbours (all_records l.class l.octets (take l.start l.entries))

abbrev pub decreases-loop-hint : goal.decreases-loop-hint
decreases-loop-hint g l = length l.initial.entries - l.start
