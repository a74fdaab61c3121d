use Rattle.zone_set.proofs.Common.{length, ◌+◌}
use Rattle.zone_set.proofs.owner.shared_end.Given as goal

abbrev pub decreases-loop-left : goal.decreases-loop-left
decreases-loop-left l = length l.left + length l.end
