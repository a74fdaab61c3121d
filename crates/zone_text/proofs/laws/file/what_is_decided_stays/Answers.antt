use Rattle.zone_text.proofs.Files.Decides.{decided_stays, decided_stays_at_end}
use Rattle.zone_text.proofs.laws.file.what_is_decided_stays.Goals as goal

pub returns : goal.returns
returns c = record { longer = decided_stays c.lower_laws.ensures; whole = decided_stays_at_end c.lower_laws.ensures }
