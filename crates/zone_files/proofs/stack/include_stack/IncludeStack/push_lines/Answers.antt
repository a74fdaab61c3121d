use Rattle.std.specs.Prelude.{reverse}
use Rattle.std.proofs.Common.{length, refl, ap, subst, ◌∙◌}
use Rattle.zone_files.specs.IncludeStack.{StackState}
use Rattle.zone_files.specs.Machine.Stacking.{GivesOn}
use Rattle.zone_files.proofs.Stacks.{gives_end, made_line}
use Rattle.zone_files.proofs.stack.include_stack.IncludeStack.push_lines.Goals as goal

pub returns-clause-gives : goal.returns-clause-gives
returns-clause-gives c =
    let old : StackState = record { innermost = c.self.inside.innermost; outer = reverse c.self.inside.outer.items; next_line = c.self.inside.lines.places.next } in
    let new : StackState = record { innermost = c.generate.new.self; outer = reverse c.self.inside.outer.items; next_line = c.end_lines.new.self.places.next } in
    let writes = c.in_ok-generate.ensures.writes in
    subst (λ (s : StackState). GivesOn s (λ fed. fed) new c.args.out.now.items c.generate.new.out.items) c.self.view_is
    (gives_end old new c.args.out.now.items c.generate.new.out.items refl writes
    (c.in_ok-end_lines.ensures.next ∙ made_line _ _ _ c.args.out.now.items c.generate.new.out.items c.deref.result.now writes.made (ap length c.as_slice-before.ensures.value) c.deref.ensures.value writes.written
    (rw (c.in_ok-begin_lines.ensures.next) at c.take.ensures.next)))
