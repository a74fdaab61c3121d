use Rattle.command_input.proofs.telling.answer_verdict.Goals as goal

pub returns-in-Same : goal.returns-in-Same
returns-in-Same g c = rw c.in-Same.is c.answer_line.ensures

pub returns-in-Different : goal.returns-in-Different
returns-in-Different g c = rw (c.in-Different.is, ← c.format-line.ensures.text) c.answer_line-in-Different.ensures
