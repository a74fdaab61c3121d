use Rattle.std.proofs.Common.{length, ◌-◌}
use Rattle.zone_name.proofs.Spelling.Marks.{Walked}
use Rattle.zone_name.proofs.reading.label_end.Given as goal

abbrev pub invariant-loop-marks : goal.invariant-loop-marks
invariant-loop-marks l = Walked l.marks l.octets l.start l.end

abbrev pub decreases-loop-marks : goal.decreases-loop-marks
decreases-loop-marks l = length l.octets - l.marks.seen
