use Rattle.words_command.proofs.program.tell_line.Goals as goal

pub returns-in-Ok-clause-told : goal.returns-in-Ok-clause-told
returns-in-Ok-clause-told g c = rw c.in-Ok.is (rw (← c.as_str.ensures.value) c.tell.ensures)
