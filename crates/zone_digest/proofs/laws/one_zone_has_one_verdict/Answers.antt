-- What a verdict says of records is the same.
use Rattle.zone_digest.proofs.SameVerdict.{same_verdict}
use Rattle.zone_digest.proofs.laws.one_zone_has_one_verdict.Goals as goal

pub returns : goal.returns
returns c = same_verdict
