use Rattle.zone_faults.proofs.Checks.{loads_inner}
use Rattle.zone_faults.proofs.pass.Pass.begin.Goals as goal

pub returns : goal.returns
returns c =
    loads_inner c.args.self.now.loader c.begin_included.new.self
    (c.in_ok-begin_included.ensures.begun c.if-not-branch.false)
