use Rattle.zone_set.proofs.Common.{length}
use Rattle.zone_set.specs.Machine.Owner.{IsAfterLabels}
use Rattle.zone_set.proofs.owner.past_ones.Given as goal

abbrev pub invariant-loop-rest : goal.invariant-loop-rest
invariant-loop-rest l = IsAfterLabels l.fn.name l.left

abbrev pub decreases-loop-rest : goal.decreases-loop-rest
decreases-loop-rest l = length l.left
