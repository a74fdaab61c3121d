use Rattle.std.proofs.Common.{[], ap, arith, length, refl, subst, sym, ◌∙◌}
use Rattle.std.proofs.lemmas.List.{nil_from_length}
use Rattle.zone_files.specs.Expansion.{breaks_off, ends}
use Rattle.zone_files.specs.ExpandedLoader.{fault_of}
use Rattle.zone_files.specs.FilesStopped.{HasEnded}
use Rattle.zone_files.proofs.Stacks.{broken_text, ended_text}
use Rattle.zone_files.proofs.files.expanded_files.ended.Goals as goal

pub returns-then-outer_files-eq0-clause-whole : goal.returns-then-outer_files-eq0-clause-whole
returns-then-outer_files-eq0-clause-whole c =
    λ directory name origin fed text st.
    (ends c.args.stack.innermost.holds, ended_text [] directory name origin c.args.stack fed text st (sym c.status.ensures ∙ c.in-Ended.is) (nil_from_length _ (omega (arith, c.outer_files.ensures, c.if-outer_files-eq0.true))), tt)

pub returns-in-BrokenOff-clause-whole : goal.returns-in-BrokenOff-clause-whole
returns-in-BrokenOff-clause-whole c =
    λ directory name origin fed text st.
    (breaks_off, broken_text [] directory name origin c.args.stack fed text st (sym c.status.ensures ∙ c.in-BrokenOff.is), tt)

pub returns-in-Faulty-clause-stopped : goal.returns-in-Faulty-clause-stopped
returns-in-Faulty-clause-stopped c ended = (refl, ap fault_of (sym c.status.ensures ∙ c.in-Faulty.is))

pub returns-in-FaultyAt-clause-stopped : goal.returns-in-FaultyAt-clause-stopped
returns-in-FaultyAt-clause-stopped c ended = (refl, ap fault_of (sym c.status.ensures ∙ c.in-FaultyAt.is))

pub returns-else-outer_files-eq0-clause-stopped : goal.returns-else-outer_files-eq0-clause-stopped
returns-else-outer_files-eq0-clause-stopped c ended =
    let none = ended.1 (sym c.status.ensures ∙ c.in-Ended.is) in
    absurd (omega (arith, ap length none, c.outer_files.ensures, c.if-outer_files-eq0.false))

pub returns-in-Going-clause-stopped : goal.returns-in-Going-clause-stopped
returns-in-Going-clause-stopped c ended = absurd (subst HasEnded (sym c.status.ensures ∙ c.in-Going.is) ended.0)

pub returns-in-Including-clause-stopped : goal.returns-in-Including-clause-stopped
returns-in-Including-clause-stopped c ended = absurd (subst HasEnded (sym c.status.ensures ∙ c.in-Including.is) ended.0)

pub returns-in-Generating-clause-stopped : goal.returns-in-Generating-clause-stopped
returns-in-Generating-clause-stopped c ended = absurd (subst HasEnded (sym c.status.ensures ∙ c.in-Generating.is) ended.0)

pub returns-in-Broken-clause-stopped : goal.returns-in-Broken-clause-stopped
returns-in-Broken-clause-stopped c ended = absurd (subst HasEnded (sym c.status.ensures ∙ c.in-Broken.is) ended.0)

pub returns-in-Failed-clause-stopped : goal.returns-in-Failed-clause-stopped
returns-in-Failed-clause-stopped c ended = absurd (subst HasEnded (sym c.status.ensures ∙ c.in-Failed.is) ended.0)
