use Rattle.std.proofs.Common.{refl, subst, sym}
use Rattle.std.proofs.lemmas.Result.{IfOk-weaker}
use Rattle.zone_files.specs.ExpandedLoader.{ExpandedState, StandsForExpanded}
use Rattle.zone_files.proofs.ExpandedLoads.{loads_inner}
use Rattle.zone_files.proofs.stack.expanded_loader.ExpandedLoader.begin_included.Goals as goal

pub returns-clause-begun : goal.returns-clause-begun
returns-clause-begun c =
    let old : ExpandedState = record { stack = c.self.inside.stack; loader = c.self.inside.loader } in
    let new : ExpandedState = record { stack = c.begin_included.new.self; loader = c.self.inside.loader } in
    IfOk-weaker c.begin_included.result _ _
    (λ begun h yes origin first fed st. loads_inner old new (h yes) refl origin first fed (subst (λ (s : ExpandedState). StandsForExpanded s origin first fed) (sym c.self.view_is) st))
    c.begin_included.ensures.begun
