-- One list of records is judged.
use Rattle.zone_digest.proofs.OneWanted.{one_findings}
use Rattle.zone_digest.proofs.laws.one_list_of_findings.Goals as goal

pub returns : goal.returns
returns c = one_findings
