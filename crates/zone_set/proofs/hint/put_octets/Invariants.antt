use Rattle.zone_set.proofs.Common.{length}
use Rattle.zone_set.proofs.Hints.Own.{IsPutFrom}
use Rattle.zone_set.proofs.hint.put_octets.Given as goal

abbrev pub invariant-loop-octet : goal.invariant-loop-octet
invariant-loop-octet l = IsPutFrom l.label l.left l.after l.key l.ended

abbrev pub decreases-loop-octet : goal.decreases-loop-octet
decreases-loop-octet l = length l.left
