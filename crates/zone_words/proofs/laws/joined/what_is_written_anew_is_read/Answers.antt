use Rattle.zone_words.proofs.JoinedReading.{anew_read}
use Rattle.zone_words.proofs.laws.joined.what_is_written_anew_is_read.Goals as goal

pub returns : goal.returns
returns c = anew_read
