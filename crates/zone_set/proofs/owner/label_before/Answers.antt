use Rattle.zone_set.proofs.Ordering.Owners.{label_after}
use Rattle.zone_set.proofs.owner.label_before.Goals as goal

pub loop-rest-init : goal.loop-rest-init
loop-rest-init c =
    label_after c.args.name.now c.past_ones.result.now c.in_ok-label.label.now c.in_ok-label.rest.now c.past_ones.ensures c.in_ok-label.ensures.parts
