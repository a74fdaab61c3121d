use Rattle.std.proofs.Common.{List, ℕ, subst}
use Rattle.zone_files.specs.ExpandedLoader.{ExpandedState, LoadsEnd}
use Rattle.zone_files.specs.IncludeStack.{MakesLines}
use Rattle.zone_files.proofs.ExpandedLoads.{LoadsText, loads_lines}
use Rattle.zone_files.proofs.stack.expanded_loader.ExpandedLoader.generate.Goals as goal

pub returns : goal.returns
returns c =
    let old : ExpandedState = record { stack = c.self.inside.stack; loader = c.self.inside.loader } in
    let new : ExpandedState = record { stack = c.generate.new.self; loader = c.feed.new.self } in
    record {
      ends = subst (λ (s : ExpandedState). LoadsEnd s new) c.self.view_is
          (loads_lines old new c.generate.new.out.items
          (subst (λ (t : List ℕ). MakesLines c.self.inside.stack c.generate.new.self t c.generate.new.out.items) c.clear.ensures.items c.in_ok-generate.ensures.makes)
          (subst (λ (t : List ℕ). LoadsText c.self.inside.loader t c.feed.new.self) c.deref.ensures.value c.in_ok-feed.ensures.stands));
    }
