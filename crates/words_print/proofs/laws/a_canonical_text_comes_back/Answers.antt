use Rattle.words_print.proofs.Canonical.{canonical_shown}
use Rattle.words_print.proofs.laws.a_canonical_text_comes_back.Goals as goal

pub returns : goal.returns
returns c = canonical_shown c.each_line_is_one_entry.ensures
