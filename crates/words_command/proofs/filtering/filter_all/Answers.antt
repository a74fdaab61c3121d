use Rattle.words_command.proofs.Halting.{halted_works, halted_writing, subst, ℕ, List, EndsWith, IfWriterWorks, IsHalted}
use Rattle.words_command.proofs.LastLines.{closes}
use Rattle.words_command.specs.Machine.Halting.{closing}
use Rattle.words_command.proofs.filtering.filter_all.Goals as goal

pub returns-in-Err-clause-stopped : goal.returns-in-Err-clause-stopped
returns-in-Err-clause-stopped g c = λ under begun.
    let filter = g.F.Filter.writes under in
    let held = g.F.Filter.held c.pass_all.new.filter in
    let inside = c.pass_all.new.is_inside in
    let halted = c.in-Err.ensures.halted under begun in
    halted_works filter (closing c.args.last) held inside _ _ _ _ _ c.octets-end.result.now _
    (λ given is. closes c.args.last given held c.written-text.result.now c.octets-end.result.now inside c.is_inside_after.result c.octets-end.ensures c.is_inside_after.ensures c.written-text.ensures is) halted
    (subst (λ (t : List ℕ). IfWriterWorks c.in-Err.failure (EndsWith c.octets-end.result.now t (g.W.OctetWriter.state c.pass_all.new.output) (g.W.OctetWriter.state c.end_with.new.output))) c.written-text.ensures c.end_with.ensures.ended)
    (λ e. rw (c.end_with.ensures.left e) (halted_writing filter (closing c.args.last) held inside _ _ _ _ (subst (IsHalted filter held inside _ _ _ _) e halted)))
