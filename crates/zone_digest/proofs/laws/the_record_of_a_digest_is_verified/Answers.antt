-- Its digest is that of the zone with it.
use Rattle.zone_digest.proofs.SameDigest.{stated_is_verified}
use Rattle.zone_digest.proofs.laws.the_record_of_a_digest_is_verified.Goals as goal

pub returns : goal.returns
returns c = stated_is_verified
