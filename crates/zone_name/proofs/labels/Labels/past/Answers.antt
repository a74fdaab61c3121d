use Rattle.zone_name.proofs.InOctets.Comparing.{drop_next}
use Rattle.zone_name.proofs.labels.Labels.past.Goals as goal

pub loop-preserved : goal.loop-preserved
loop-preserved c = drop_next c.next.result (λ x. x.now) c.loop.left c.next.new.self c.args.self c.loop.counter c.next.ensures.steps c.loop.invariant
