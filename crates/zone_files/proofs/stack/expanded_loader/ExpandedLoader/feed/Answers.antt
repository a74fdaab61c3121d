use Rattle.std.proofs.Common.{List, ℕ, subst}
use Rattle.zone_files.specs.ExpandedLoader.{ExpandedState, LoadsInnermost}
use Rattle.zone_files.specs.IncludeStack.{FeedsInnermost}
use Rattle.zone_files.proofs.ExpandedLoads.{LoadsText, loads_part}
use Rattle.zone_files.proofs.stack.expanded_loader.ExpandedLoader.feed.Goals as goal

pub returns-clause-feeds : goal.returns-clause-feeds
returns-clause-feeds c =
    let old : ExpandedState = record { stack = c.self.inside.stack; loader = c.self.inside.loader } in
    let new : ExpandedState = record { stack = c.feed.new.self; loader = c.feed-2.new.self } in
    subst (λ (s : ExpandedState). LoadsInnermost s c.args.piece.now c.in_ok-left.left.now new) c.self.view_is
    (loads_part old new c.args.piece.now c.in_ok-left.left.now c.feed.new.out.items
    (subst (λ (t : List ℕ). FeedsInnermost c.self.inside.stack c.args.piece.now c.in_ok-left.left.now c.feed.new.self t c.feed.new.out.items) c.clear.ensures.items c.in_ok-left.ensures.feeds)
    (subst (λ (t : List ℕ). LoadsText c.self.inside.loader t c.feed-2.new.self) c.deref.ensures.value c.in_ok-feed.ensures.stands))
