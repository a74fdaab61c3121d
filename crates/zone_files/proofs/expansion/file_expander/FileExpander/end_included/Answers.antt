use Rattle.std.proofs.Common.{◌∙◌, ap, subst}
use Rattle.zone_files.specs.FileExpander.{ExpanderState, TakesIncluded}
use Rattle.zone_files.specs.Machine.Expanding.{state_of}
use Rattle.zone_files.proofs.Expansions.Following.{included_taken}
use Rattle.zone_files.proofs.expansion.file_expander.FileExpander.end_included.Goals as goal

pub returns-in-Ok-clause-taken : goal.returns-in-Ok-clause-taken
returns-in-Ok-clause-taken c including =
    subst (λ (s : ExpanderState). TakesIncluded s c.args.inner.now (state_of c.take_included.new.self) c.args.out.now.items c.take_included.new.out.items) c.self.view_is
    (subst (λ (s : ExpanderState). TakesIncluded (state_of c.self.inside.expansion) s (state_of c.take_included.new.self) c.args.out.now.items c.take_included.new.out.items) c.inner.view_is
    (included_taken c.self.inside.expansion c.inner.inside.expansion c.take_included.new.self (ap (λ (s : ExpanderState). s.status) c.self.view_is ∙ including) c.in-Ok.ensures.none c.args.out.now.items c.take_included.new.out.items c.in-Ok.ensures.taken))
