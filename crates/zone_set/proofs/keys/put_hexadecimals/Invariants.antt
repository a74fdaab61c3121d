use Rattle.zone_set.proofs.Common.{length}
use Rattle.zone_set.proofs.keys.put_hexadecimals.Given as goal

abbrev pub decreases-loop-left : goal.decreases-loop-left
decreases-loop-left l = length l.left
