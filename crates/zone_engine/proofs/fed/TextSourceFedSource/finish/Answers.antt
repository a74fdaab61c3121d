use Rattle.zone_engine.proofs.Feeding.{stands_on}
use Rattle.zone_engine.proofs.fed.TextSourceFedSource.finish.Goals as goal

pub returns-clause-stands : goal.returns-clause-stands
returns-clause-stands c = stands_on c.args.self.now c.finish.new.self (λ octets. octets) c.finish.result c.finish.ensures.stands
