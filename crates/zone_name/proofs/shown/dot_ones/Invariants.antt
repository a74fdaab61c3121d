use Rattle.zone_name.proofs.Common.{TurnsFront, length, ◌+◌, ◌-◌, ◌≤◌}
use Rattle.zone_name.proofs.shown.dot_ones.Given as goal

abbrev pub invariant-loop-octets : goal.invariant-loop-octets
invariant-loop-octets l = TurnsFront l.fn.octets l.octets l.at 1 46 × (l.at + 16 ≤ length l.octets)

abbrev pub decreases-loop-octets : goal.decreases-loop-octets
decreases-loop-octets l = length l.octets - l.at
