use Rattle.zone_set.proofs.Common.{length, map, take, with_hint, ◌-◌, ◌≡◌, ◌≤◌}
use Rattle.zone_set.proofs.keys.run_len.Given as goal

abbrev pub invariant-loop-len : goal.invariant-loop-len
invariant-loop-len l = (l.len ≤ length l.entries) × (map (with_hint l.hint) (take l.len l.entries) ≡ take l.len l.entries)

abbrev pub decreases-loop-len : goal.decreases-loop-len
decreases-loop-len l = length l.entries - l.len
