use Rattle.std.proofs.Common.{◌≡◌}
use Rattle.zone_faults.proofs.pass.Pass.close_ended.Given as goal

-- the loader stays
abbrev pub invariant-ended : goal.invariant-ended
invariant-ended l = l.self.loader ≡ l.initial.self.loader
