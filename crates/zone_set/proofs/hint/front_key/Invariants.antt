use Rattle.zone_set.proofs.Common.{length}
use Rattle.zone_set.proofs.Hints.HintWalk.{IsWalked}
use Rattle.zone_set.proofs.hint.front_key.Given as goal

abbrev pub invariant-loop-left : goal.invariant-loop-left
invariant-loop-left l = IsWalked l.fn.base l.fn.owner l.left l.key

abbrev pub decreases-loop-left : goal.decreases-loop-left
decreases-loop-left l = length l.left
