use Rattle.digest_command.proofs.lines.findings_text.Goals as goal

pub returns-in-Some : goal.returns-in-Some
returns-in-Some c = rw (← c.in-Some.ensures) c.verified_line.ensures
