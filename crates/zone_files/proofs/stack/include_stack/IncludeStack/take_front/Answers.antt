use Rattle.std.specs.Prelude.{reverse}
use Rattle.std.proofs.Common.{length, refl, ap, subst, ◌∙◌}
use Rattle.zone_files.specs.IncludeStack.{StackState}
use Rattle.zone_files.specs.Machine.Stacking.{TakesPart}
use Rattle.zone_files.proofs.Stacks.{made_line, takes_part}
use Rattle.zone_files.proofs.stack.include_stack.IncludeStack.take_front.Goals as goal

pub returns-clause-takes : goal.returns-clause-takes
returns-clause-takes c =
    let old : StackState = record { innermost = c.self.inside.innermost; outer = reverse c.self.inside.outer.items; next_line = c.self.inside.lines.places.next } in
    let new : StackState = record { innermost = c.feed.new.self; outer = reverse c.self.inside.outer.items; next_line = c.take.new.self.places.next } in
    let feeds = c.in_ok-left.ensures.feeds in
    subst (λ (s : StackState). TakesPart s c.args.piece.now c.in_ok-left.left.now new c.args.out.now.items c.feed.new.out.items) c.self.view_is
    (takes_part old new c.args.piece.now c.in_ok-left.left.now c.args.out.now.items c.feed.new.out.items refl feeds
    (made_line _ _ _ c.args.out.now.items c.feed.new.out.items c.deref.result.now feeds.writes.made (ap length c.as_slice-before.ensures.value) c.deref.ensures.value feeds.writes.written c.take.ensures.next))
