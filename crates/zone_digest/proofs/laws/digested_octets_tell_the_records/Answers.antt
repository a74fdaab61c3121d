-- The records are those of the octets.
use Rattle.zone_digest.proofs.Telling.{records_told}
use Rattle.zone_digest.proofs.laws.digested_octets_tell_the_records.Goals as goal

pub returns : goal.returns
returns c = records_told
