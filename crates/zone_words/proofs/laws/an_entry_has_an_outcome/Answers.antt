use Rattle.zone_words.proofs.HasRewriting.{entry_becomes}
use Rattle.zone_words.proofs.laws.an_entry_has_an_outcome.Goals as goal

pub returns : goal.returns
returns c = entry_becomes
