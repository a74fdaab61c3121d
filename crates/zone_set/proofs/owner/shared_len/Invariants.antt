use Rattle.zone_set.proofs.Common.{length}
use Rattle.zone_set.proofs.owner.shared_len.Given as goal

abbrev pub decreases-loop-rest : goal.decreases-loop-rest
decreases-loop-rest l = length l.left

abbrev pub decreases-loop-x : goal.decreases-loop-x
decreases-loop-x l = length l.left
