use Rattle.std.specs.Prelude.{IfSome, reverse}
use Rattle.std.proofs.Common.{◌≡◌, [], ◌∷◌, Option, Some, refl, sym, ap, subst, ◌∙◌}
use Rattle.zone_files.specs.Expansion.{no_files, within}
use Rattle.zone_files.specs.FileExpander.{ExpanderState, NamedFile, StandsFor}
use Rattle.zone_files.specs.IncludeStack.{BeginsInner, StackState}
use Rattle.zone_files.specs.declared.expansion.progress.FileStatus.TheVariants.{Going}
use Rattle.zone_files.proofs.Stacks.{begins_inner, reversed_push, waiting_pushed}
use Rattle.zone_files.proofs.stack.include_stack.IncludeStack.begin_inner.Goals as goal

pub invariant_of-self-2 : goal.invariant_of-self-2
invariant_of-self-2 c =
    waiting_pushed c.self.inside.outer.items c.push.new.self.items c.replace.result c.in_ok-push.ensures.items c.self.invariant
    (ap (λ (s : ExpanderState). s.status) c.replace.ensures.value ∙ ap (λ (s : StackState). s.innermost.status) c.self.view_is ∙ c.is_wanting.ensures.yes c.if-not-is_wanting.false)

pub returns-clause-begun : goal.returns-clause-begun
returns-clause-begun c = λ yes.
    let old : StackState = record { innermost = c.self.inside.innermost; outer = reverse c.self.inside.outer.items; next_line = c.self.inside.lines.places.next } in
    let new : StackState = record { innermost = c.replace.new.dest; outer = reverse c.push.new.self.items; next_line = c.begin_included-2.new.self.places.next } in
    subst (λ (s : StackState). BeginsInner s new) c.self.view_is
    (begins_inner old new
    (ap (λ (s : StackState). s.innermost.status) c.self.view_is ∙ c.is_wanting.ensures.yes c.if-not-is_wanting.false)
    (ap (λ (s : ExpanderState). s.status) c.replace.ensures.after ∙ subst (λ (o : Option ExpanderState). IfSome o (λ inner. inner.status ≡ Going)) c.in-Some-2.is c.in_ok-inner.ensures.going)
    (reversed_push c.self.inside.outer.items c.push.new.self.items c.replace.result c.in_ok-push.ensures.items ∙ ap (λ (s : ExpanderState). s ∷ reverse c.self.inside.outer.items) c.replace.ensures.value)
    c.in_ok-begin_included.ensures.next
    (λ named is. subst (λ (s : ExpanderState). StandsFor s (within named.name named.origin c.self.inside.innermost.holds) [] no_files []) (sym c.replace.ensures.after)
    (subst (λ (o : Option ExpanderState). IfSome o (λ inner. (n : NamedFile) → c.self.inside.innermost.included ≡ Some n → StandsFor inner (within n.name n.origin c.self.inside.innermost.holds) [] no_files [])) c.in-Some-2.is c.in_ok-inner.ensures.stands named is)))
