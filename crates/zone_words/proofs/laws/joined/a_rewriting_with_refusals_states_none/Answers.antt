use Rattle.zone_words.proofs.JoinedFiles.{file_untold}
use Rattle.zone_words.proofs.laws.joined.a_rewriting_with_refusals_states_none.Goals as goal

pub returns : goal.returns
returns c cased origin = file_untold cased origin
