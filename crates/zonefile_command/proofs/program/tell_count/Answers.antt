use Rattle.zonefile_command.proofs.program.tell_count.Goals as goal

pub returns : goal.returns
returns g c = rw (← c.format-line.ensures.text) c.answer_line.ensures
