use Rattle.zone_name.proofs.Common.{WritesLengths, drop, length, ◌-◌, ◌≡◌, ◌≤◌}
use Rattle.zone_name.proofs.reading.write_ones.Given as goal

abbrev pub invariant-loop-at : goal.invariant-loop-at
invariant-loop-at l =
    WritesLengths l.fn.octets l.octets (drop l.at l.octets) × (length l.octets ≡ length l.fn.octets)
    × (l.at ≤ length l.octets)

abbrev pub decreases-loop-at : goal.decreases-loop-at
decreases-loop-at l = length l.octets - l.at
