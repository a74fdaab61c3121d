use Rattle.zone_engine.proofs.Headline.{one_verdict, same_if_one}
use Rattle.zone_engine.proofs.laws.same_is_one_zone.Goals as goal

pub returns-clause-same : goal.returns-clause-same
returns-clause-same c = same_if_one c.headline.ensures.same

pub returns-clause-one : goal.returns-clause-one
returns-clause-one c = one_verdict c.one_zone.ensures
