use Rattle.zone_engine.proofs.Common.{◌++◌}
use Rattle.zone_engine.proofs.Feeding.{stands_on}
use Rattle.zone_engine.proofs.fed.TextSourceFedSource.feed.Goals as goal

pub returns-clause-stands : goal.returns-clause-stands
returns-clause-stands c = stands_on c.args.self.now c.feed.new.self (λ octets. octets ++ c.args.piece.now) c.feed.result c.feed.ensures.stands
