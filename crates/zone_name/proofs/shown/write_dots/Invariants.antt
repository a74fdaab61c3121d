use Rattle.std.proofs.Common.{length, ◌-◌}
use Rattle.zone_name.proofs.Spelling.WholeText.{Dotted}
use Rattle.zone_name.proofs.shown.write_dots.Given as goal

abbrev pub invariant-loop-at : goal.invariant-loop-at
invariant-loop-at l = Dotted l.fn.octets l.octets l.at l.labels

abbrev pub decreases-loop-at : goal.decreases-loop-at
decreases-loop-at l = length l.octets - l.at
