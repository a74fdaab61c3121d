use Rattle.zone_faults.specs.Checking.{LoadsOn}
use Rattle.zone_faults.proofs.pass.Pass.run.Given as goal

-- more of the files was loaded
abbrev pub invariant-steps : goal.invariant-steps
invariant-steps g l = LoadsOn l.initial.self.loader l.self.loader
