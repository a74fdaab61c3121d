use Rattle.std.proofs.Common.{ℕ, List, [], Option, subst, sym}
use Rattle.std.proofs.lemmas.Result.{IfOk-weaker}
use Rattle.zone_files.specs.Expansion.{first_without}
use Rattle.zone_files.specs.ExpandedLoader.{ExpandedState, StandsForExpanded}
use Rattle.zone_files.proofs.stack.expanded_loader.ExpandedLoader.load.Goals as goal

pub returns-clause-zone : goal.returns-clause-zone
returns-clause-zone c =
    IfOk-weaker c.loaded.result _ _
    (λ z denotes directory name origin fed st.
    let was = subst (λ (s : ExpandedState). StandsForExpanded s origin (first_without [] directory name origin) fed) (sym c.self.view_is) st in
    denotes [] directory name origin fed was.text was.expands was.loads)
    c.loaded.ensures.zone

pub returns-clause-without : goal.returns-clause-without
returns-clause-without c =
    IfOk-weaker c.loaded.result _ _
    (λ z denotes lines directory name origin fed st.
    let was = subst (λ (s : ExpandedState). StandsForExpanded s origin (first_without lines directory name origin) fed) (sym c.self.view_is) st in
    denotes lines directory name origin fed was.text was.expands was.loads)
    c.loaded.ensures.zone
