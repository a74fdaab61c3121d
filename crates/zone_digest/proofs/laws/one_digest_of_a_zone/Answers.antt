-- One list of records is digested.
use Rattle.zone_digest.proofs.OneDigest.{one_digest}
use Rattle.zone_digest.proofs.laws.one_digest_of_a_zone.Goals as goal

pub returns : goal.returns
returns c = one_digest
