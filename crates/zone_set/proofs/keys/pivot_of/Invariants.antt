use Rattle.zone_set.proofs.Common.{length}
use Rattle.zone_set.proofs.keys.pivot_of.Given as goal

abbrev pub decreases-loop-first : goal.decreases-loop-first
decreases-loop-first l = length l.left
