-- The canonical forms are put in order, one after another.
use Rattle.zone_digest.proofs.SomeDigest.{some_digest}
use Rattle.zone_digest.proofs.laws.each_zone_has_a_digest.Goals as goal

pub returns : goal.returns
returns c z a is = some_digest z is a
