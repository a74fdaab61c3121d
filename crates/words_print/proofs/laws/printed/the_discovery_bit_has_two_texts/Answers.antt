use Rattle.words_print.proofs.OneText.{two_texts}
use Rattle.words_print.proofs.laws.printed.the_discovery_bit_has_two_texts.Goals as goal

pub returns : goal.returns
returns c = two_texts
