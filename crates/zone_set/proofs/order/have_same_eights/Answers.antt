use Rattle.std.proofs.Common.{inr}
use Rattle.zone_set.proofs.Common.{arith, bytes_eq-Decides}
use Rattle.zone_set.proofs.Ordering.Octets.{eights_apart, eights_passed}
use Rattle.zone_set.proofs.order.have_same_eights.Goals as goal

pub returns-then-ne-clause-other : goal.returns-then-ne-clause-other
returns-then-ne-clause-other c = inr (eights_apart _ _ _ _ _ _ _ _ c.loop-x.invariant c.in-Some-Some.ensures.cases c.in-Some-Some.ensures'.cases (grind (arith, bytes_eq-Decides c.in-Some-Some.x.now c.in-Some-Some.y.now, c.ne.ensures, c.if-ne.true)))

pub loop-x-preserved : goal.loop-x-preserved
loop-x-preserved c = eights_passed _ _ _ _ _ _ _ _ c.loop-x.invariant c.in-Some-Some.ensures.cases c.in-Some-Some.ensures'.cases (grind (arith, bytes_eq-Decides c.in-Some-Some.x.now c.in-Some-Some.y.now, c.ne.ensures, c.if-ne.false))
