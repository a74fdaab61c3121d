use Rattle.zone_set.proofs.Ordering.Owners.{end_first}
use Rattle.zone_set.proofs.owner.past_first.Goals as goal

pub returns-then-rest-near-clause-end : goal.returns-then-rest-near-clause-end
returns-then-rest-near-clause-end c = end_first c.args.name.now _ c.in_ok-rest.rest.now c.in_ok-rest.ensures.parts
