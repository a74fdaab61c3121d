use Rattle.zone_words.proofs.RewrittenCut.{kept_or_anew}
use Rattle.zone_words.proofs.laws.entries_stay_entries.Goals as goal

pub returns : goal.returns
returns c = kept_or_anew
