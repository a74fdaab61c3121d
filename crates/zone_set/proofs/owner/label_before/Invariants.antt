use Rattle.zone_set.proofs.Common.{length}
use Rattle.zone_set.specs.Machine.Owner.{IsLabelBefore}
use Rattle.zone_set.proofs.owner.label_before.Given as goal

-- it stands before the rest
abbrev pub invariant-loop-rest : goal.invariant-loop-rest
invariant-loop-rest l = IsLabelBefore l.fn.name l.label l.rest

abbrev pub decreases-loop-rest : goal.decreases-loop-rest
decreases-loop-rest l = length l.rest
