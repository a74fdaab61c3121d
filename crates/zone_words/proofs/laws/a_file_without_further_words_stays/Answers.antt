use Rattle.zone_words.proofs.OwnRewriting.{own_rewriting}
use Rattle.zone_words.proofs.laws.a_file_without_further_words_stays.Goals as goal

pub returns : goal.returns
returns c = own_rewriting
