use Rattle.std.proofs.Common.{subst, sym}
use Rattle.std.proofs.lemmas.Result.{IfOk-weaker, MatchResult-weaker}
use Rattle.zone_files.specs.ExpandedLoader.{ExpandedState, StandsForExpanded}
use Rattle.zone_files.specs.IncludeStack.{main_alone}
use Rattle.zone_faults.specs.Checking.{begins}
use Rattle.zone_faults.specs.Machine.Finding.{main_of}
use Rattle.zone_faults.proofs.Checks.{denoted, refused}
use Rattle.zone_faults.proofs.finding.load_without.Goals as goal

pub returns-clause-zone : goal.returns-clause-zone
returns-clause-zone g c =
    let main = main_of c.args.main in
    let first = begins main c.args.lines.now in
    let stands = subst (λ (s : ExpandedState). StandsForExpanded s main.origin first main_alone) (sym c.new-pass.ensures) c.in_ok-loader.ensures.stands in
    IfOk-weaker c.load.result.0 _ _ (λ zone denotes. denoted main c.args.lines.now c.run.new.self.loader zone (c.in_ok-run.ensures main.origin first main_alone stands) denotes) c.load.ensures.without

pub returns-clause-refused : goal.returns-clause-refused
returns-clause-refused g c =
    let main = main_of c.args.main in
    let first = begins main c.args.lines.now in
    let stands = subst (λ (s : ExpandedState). StandsForExpanded s main.origin first main_alone) (sym c.new-pass.ensures) c.in_ok-loader.ensures.stands in
    MatchResult-weaker c.load.result.0 c.load.ensures.refused (λ zone h. h)
    (λ refusal refuses. refused main c.args.lines.now c.run.new.self.loader refusal c.load.result.1 c.load.ensures.stack (c.in_ok-run.ensures main.origin first main_alone stands) refuses)
