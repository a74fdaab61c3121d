-- Each record is told.
use Rattle.zone_digest.proofs.SameDigest.{told_verified}
use Rattle.zone_digest.proofs.laws.findings_tell_whether_a_zone_is_verified.Goals as goal

pub returns : goal.returns
returns c = told_verified
