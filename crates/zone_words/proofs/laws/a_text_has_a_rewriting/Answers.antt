use Rattle.zone_words.proofs.HasRewriting.{has_rewriting}
use Rattle.zone_words.proofs.laws.a_text_has_a_rewriting.Goals as goal

pub returns : goal.returns
returns c = has_rewriting
