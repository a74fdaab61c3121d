use Rattle.zone_text.proofs.Common.{length, ◌-◌, ◌≤◌}
use Rattle.zone_text.proofs.Scanning.StopMarks.{GoesTo}
use Rattle.zone_text.proofs.stops.bare_len.Given as goal

abbrev pub invariant-loop-seen : goal.invariant-loop-seen
invariant-loop-seen l = record {
  within : l.seen ≤ length l.octets;
  so_far : GoesTo l.octets l.seen;
}

abbrev pub decreases-loop-seen : goal.decreases-loop-seen
decreases-loop-seen l = length l.octets - l.seen
