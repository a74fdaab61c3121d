use Rattle.zone_words.proofs.RewrittenAgain.{rewritten_again}
use Rattle.zone_words.proofs.laws.a_rewriting_is_its_own.Goals as goal

pub returns : goal.returns
returns c = rewritten_again
