use Rattle.zone_set.proofs.Common.{inr}
use Rattle.zone_set.proofs.Ordering.Owners.{end_more}
use Rattle.zone_set.proofs.owner.past_far.Goals as goal

pub loop-rest-preserved : goal.loop-rest-preserved
loop-rest-preserved c =
    (λ labels is. end_more labels c.loop-rest.left.now c.in-Some.rest.now (c.loop-rest.invariant.0 labels is) c.in-Some.ensures.end, inr c.in-Some.ensures.far)
