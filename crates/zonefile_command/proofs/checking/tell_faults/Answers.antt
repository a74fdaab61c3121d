use Rattle.zonefile_command.proofs.checking.tell_faults.Goals as goal

pub returns : goal.returns
returns g c = rw (← c.format.ensures.text, ← c.faults_words-words.ensures) c.answer_line.ensures
