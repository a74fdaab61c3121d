use Rattle.words_print.proofs.Lines.{shown_text}
use Rattle.words_print.proofs.laws.what_is_shown_is_rewritten.Goals as goal

pub returns : goal.returns
returns c = shown_text
