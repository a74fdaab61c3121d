use Rattle.zone_faults.proofs.Checks.{loads_then}
use Rattle.zone_faults.proofs.pass.Pass.run.Goals as goal

pub returns-then-not-branch : goal.returns-then-not-branch
returns-then-not-branch g c =
    loads_then c.args.self.now.loader c.steps.self.loader c.step.new.self.loader c.steps.invariant c.in_ok-step.ensures

pub steps-preserved : goal.steps-preserved
steps-preserved g c =
    loads_then c.args.self.now.loader c.steps.self.loader c.step.new.self.loader c.steps.invariant c.in_ok-step.ensures
