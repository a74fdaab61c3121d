use Rattle.words_command.proofs.LastLines.{inside_by_found}
use Rattle.words_command.proofs.last_line.is_inside_after.Goals as goal

pub returns-in-Some : goal.returns-in-Some
returns-in-Some c = inside_by_found c.args.is_inside c.args.text.now c.in-Some.octet.now c.in-Some.ensures.value
