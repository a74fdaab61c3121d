use Rattle.std.proofs.Common.{List, ℕ, subst}
use Rattle.zone_files.specs.ExpandedLoader.{ExpandedState, LoadsEnd}
use Rattle.zone_files.specs.IncludeStack.{EndsInnermost}
use Rattle.zone_files.proofs.ExpandedLoads.{LoadsText, loads_end}
use Rattle.zone_files.proofs.stack.expanded_loader.ExpandedLoader.finish.Goals as goal

pub returns : goal.returns
returns c =
    let old : ExpandedState = record { stack = c.self.inside.stack; loader = c.self.inside.loader } in
    let new : ExpandedState = record { stack = c.finish.new.self; loader = c.feed.new.self } in
    record {
      ends = subst (λ (s : ExpandedState). LoadsEnd s new) c.self.view_is
          (loads_end old new c.finish.new.out.items
          (subst (λ (t : List ℕ). EndsInnermost c.self.inside.stack c.finish.new.self t c.finish.new.out.items) c.clear.ensures.items c.in_ok-finish.ensures.ends)
          (subst (λ (t : List ℕ). LoadsText c.self.inside.loader t c.feed.new.self) c.deref.ensures.value c.in_ok-feed.ensures.stands));
    }
