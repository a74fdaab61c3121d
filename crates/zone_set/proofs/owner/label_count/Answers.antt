use Rattle.zone_set.proofs.Common.{ap, arith, length}
use Rattle.zone_set.proofs.Ordering.Owners.{labels_of-first}
use Rattle.zone_set.proofs.owner.label_count.Goals as goal

pub loop-rest-preserved : goal.loop-rest-preserved
loop-rest-preserved c =
    let one = ap length (labels_of-first c.loop-rest.left.now _ c.in-Some.rest.now c.in-Some.ensures.parts) in
    (omega (arith, one, c.loop-rest.invariant.0), omega (arith, c.in-Some.ensures.shorter, c.loop-rest.invariant.1))
