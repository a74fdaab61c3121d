use Rattle.zone_name.proofs.Common.{TellsMarks, WritesLengths, drop, length, ◌+◌, ◌-◌, ◌≡◌, ◌≤◌}
use Rattle.zone_name.proofs.reading.write_lengths.Given as goal

abbrev pub invariant-loop-start : goal.invariant-loop-start
invariant-loop-start l =
    WritesLengths l.fn.octets l.octets (drop l.start l.octets) × (l.start ≤ length l.octets)
    × (length l.octets ≡ length l.fn.octets) × TellsMarks l.marks l.octets (l.start + 1)

abbrev pub decreases-loop-start : goal.decreases-loop-start
decreases-loop-start l = length l.fn.octets - l.start
