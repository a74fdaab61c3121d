use Rattle.zone_name.specs.Common.{Labels}
use Rattle.zone_set.proofs.Common.{AllByRecursion, IsEntry, length, ℕ}
use Rattle.zone_set.proofs.Lists.Differing.{HasCounted}
use Rattle.zone_set.proofs.distinct.has_different.Given as goal

-- those that counted differ, and each was seen
abbrev pub invariant-loop-entry : goal.invariant-loop-entry
invariant-loop-entry l = (base : Labels) (class : ℕ) → AllByRecursion (IsEntry base class l.octets) l.fn.entries → HasCounted base class l.octets l.fn.entries l.look l.left l.count l.seen

abbrev pub decreases-loop-entry : goal.decreases-loop-entry
decreases-loop-entry l = length l.left
