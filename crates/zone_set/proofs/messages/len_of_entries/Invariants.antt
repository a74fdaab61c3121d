use Rattle.zone_set.proofs.Common.{AllByRecursion, IsEntry, all_records, length, message_octets, min, ◌+◌, ◌-◌, ◌^◌, ◌≡◌, ◌≤◌}
use Rattle.zone_set.proofs.messages.len_of_entries.Given as goal

-- what was counted and what the entries that are left count are the whole
abbrev pub invariant-loop-entry : goal.invariant-loop-entry
invariant-loop-entry g l =
    AllByRecursion (IsEntry g.base l.class l.octets) l.left
    × (l.octet_count ≤ 2 ^ 64 - 1)
    × (min (l.octet_count + message_octets (all_records l.class l.octets l.left)) (2 ^ 64 - 1) ≡ min (message_octets (all_records l.class l.octets l.fn.entries)) (2 ^ 64 - 1))

abbrev pub decreases-loop-entry : goal.decreases-loop-entry
decreases-loop-entry g l = length l.left
