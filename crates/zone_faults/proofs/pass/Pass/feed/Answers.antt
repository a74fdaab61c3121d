use Rattle.zone_faults.proofs.Checks.{loads_fed}
use Rattle.zone_faults.proofs.pass.Pass.feed.Goals as goal

pub returns : goal.returns
returns c = loads_fed c.args.self.now.loader c.feed.new.self _ _ c.in_ok-left.ensures.feeds
