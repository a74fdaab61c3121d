use Rattle.zone_files.proofs.Expansions.Generating.{last_some}
use Rattle.zone_files.proofs.expansion.generating.last_stated.Goals as goal

pub returns-in-Some : goal.returns-in-Some
returns-in-Some c = last_some c.args.origin.now _ c.in-Some.owner.items c.spelled.result (rw c.in-Some.is at c.in_ok-owner.ensures) (rw c.deref.ensures.value at c.spelled.ensures)
