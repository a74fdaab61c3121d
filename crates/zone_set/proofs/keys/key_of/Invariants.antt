use Rattle.zone_set.proofs.Common.{length}
use Rattle.zone_set.proofs.keys.key_of.Given as goal

abbrev pub decreases-loop-label : goal.decreases-loop-label
decreases-loop-label l = length l.labels
