-- Each test of the verdicts is settled.
use Rattle.zone_digest.proofs.SomeVerdict.{some_verdict}
use Rattle.zone_digest.proofs.laws.each_zonemd_record_has_a_verdict.Goals as goal

pub returns : goal.returns
returns c z r is zonemd = some_verdict z is r zonemd
