use Rattle.std.proofs.Common.{subst, sym}
use Rattle.zone_files.specs.ExpandedLoader.{ExpandedState}
use Rattle.zone_faults.specs.Checking.{LoadsOn}
use Rattle.zone_faults.proofs.Checks.{loads_ends}
use Rattle.zone_faults.proofs.pass.Pass.finish.Goals as goal

pub returns : goal.returns
returns c =
    subst (λ (s : ExpandedState). LoadsOn c.args.self.now.loader s) (sym c.close_ended.ensures)
    (loads_ends c.args.self.now.loader c.finish.new.self c.in_ok-finish.ensures.ends)
