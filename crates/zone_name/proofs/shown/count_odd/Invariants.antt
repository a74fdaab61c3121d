use Rattle.zone_name.proofs.Common.{count_by, is_odd, take, ◌+◌, ◌-◌, ◌<◌, ◌≡◌}
use Rattle.zone_name.proofs.shown.count_odd.Given as goal

abbrev pub invariant-loop-at : goal.invariant-loop-at
invariant-loop-at l = (l.at < l.len + 16) × (l.odd ≡ count_by is_odd (take l.at l.octets))

abbrev pub decreases-loop-at : goal.decreases-loop-at
decreases-loop-at l = l.len - l.at
