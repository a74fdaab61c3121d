use Rattle.words_command.proofs.order.origin_of.Goals as goal

pub returns-in-Ok-clause-ordered : goal.returns-in-Ok-clause-ordered
returns-in-Ok-clause-ordered c = rw (← c.as_bytes.ensures.value) c.in-Ok.ensures.found

pub returns-in-Err-clause-refused : goal.returns-in-Err-clause-refused
returns-in-Err-clause-refused c = λ name s. let h = c.in-Err.ensures.only name (rw c.as_bytes.ensures.value s) in cc
