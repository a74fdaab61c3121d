use Rattle.zone_rdata.proofs.Octets.Taken.{canonical_once}
use Rattle.zone_rdata.proofs.laws.uncompressed.canonical_octets_are_unique.Goals as goal

pub returns : goal.returns
returns c = λ class kind fields octets laid a b. canonical_once class kind fields octets a b laid
