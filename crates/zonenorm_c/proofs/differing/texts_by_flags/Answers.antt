-- what the flags ask for
use Rattle.zonenorm_c.specs.Difference.{asked}
use Rattle.zonenorm_c.proofs.differing.texts_by_flags.Goals as goal

pub returns-in-Some : goal.returns-in-Some
returns-in-Some c = let known = c.in-Some.ensures.known in asked known.0 (rw (← known.1, ← known.2) c.given_texts.ensures)
