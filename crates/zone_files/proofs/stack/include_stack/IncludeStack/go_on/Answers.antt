use Rattle.std.specs.Prelude.{reverse}
use Rattle.std.proofs.Common.{length, refl, ap, subst, ◌∙◌}
use Rattle.zone_files.specs.IncludeStack.{StackState, fed_ended}
use Rattle.zone_files.specs.Machine.Stacking.{GivesOn}
use Rattle.zone_files.proofs.Stacks.{gives_outside, made_line, reversed_pop, waiting_last, waiting_left}
use Rattle.zone_files.proofs.stack.include_stack.IncludeStack.go_on.Goals as goal

pub invariant_of-self-in_err-ended : goal.invariant_of-self-in_err-ended
invariant_of-self-in_err-ended c = waiting_left c.self.inside.outer.items c.pop.new.self.items c.pop.result c.pop.ensures.items c.self.invariant

pub invariant_of-self-in_err-end_included : goal.invariant_of-self-in_err-end_included
invariant_of-self-in_err-end_included c = waiting_left c.self.inside.outer.items c.pop.new.self.items c.pop.result c.pop.ensures.items c.self.invariant

pub invariant_of-self-2 : goal.invariant_of-self-2
invariant_of-self-2 c = waiting_left c.self.inside.outer.items c.pop.new.self.items c.pop.result c.pop.ensures.items c.self.invariant

pub returns-clause-gives : goal.returns-clause-gives
returns-clause-gives c =
    let old : StackState = record { innermost = c.self.inside.innermost; outer = reverse c.self.inside.outer.items; next_line = c.self.inside.lines.places.next } in
    let new : StackState = record { innermost = c.end_included-ended.new.self; outer = reverse c.pop.new.self.items; next_line = c.take.new.self.places.next } in
    let taken = c.in_ok-ended.ensures.taken (waiting_last c.self.inside.outer.items c.pop.new.self.items c.pop.result c.in-Some.outer c.pop.ensures.items c.in-Some.is c.self.invariant) in
    subst (λ (s : StackState). GivesOn s (fed_ended 1) new c.args.out.now.items c.end_included-ended.new.out.items) c.self.view_is
    (gives_outside old new c.in-Some.outer (reverse c.pop.new.self.items) c.args.out.now.items c.end_included-ended.new.out.items refl taken
    (reversed_pop c.self.inside.outer.items c.pop.new.self.items c.pop.result c.in-Some.outer c.pop.ensures.items c.in-Some.is)
    (made_line _ _ _ c.args.out.now.items c.end_included-ended.new.out.items c.deref.result.now taken.made (ap length c.as_slice-before.ensures.value) c.deref.ensures.value taken.written
    (rw (c.in_ok-end_included.ensures.next) at c.take.ensures.next)))
