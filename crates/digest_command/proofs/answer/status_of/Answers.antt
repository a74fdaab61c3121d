use Rattle.std.proofs.Common.{inl, inr, refl}
use Rattle.digest_command.proofs.Findings.{found_tells, none_tells}
use Rattle.digest_command.proofs.answer.status_of.Goals as goal

pub returns-in-Some : goal.returns-in-Some
returns-in-Some c = inl (found_tells c.args.findings.now c.in-Some.field-0.now c.in-Some.ensures, refl)

pub returns-in-None : goal.returns-in-None
returns-in-None c = inr (none_tells c.args.findings.now c.in-None.ensures, refl)
