use Rattle.command_input.proofs.Origins.{no_origin, not_same}
use Rattle.command_input.proofs.origin.origin_of.Goals as goal

pub returns-in-Ok-clause-ordered : goal.returns-in-Ok-clause-ordered
returns-in-Ok-clause-ordered c = rw (← c.as_bytes.ensures.value) c.in-Ok.ensures.found

pub returns-in-Err-clause-refused : goal.returns-in-Err-clause-refused
returns-in-Err-clause-refused c =
    no_origin _ (not_same _ _ _ c.eq.ensures c.if-eq.false) (λ name s. let h = c.in-Err.ensures.only name (rw c.as_bytes.ensures.value s) in cc)
