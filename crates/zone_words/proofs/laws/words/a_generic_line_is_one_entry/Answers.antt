use Rattle.zone_words.proofs.GenericLines.{generic_entry}
use Rattle.zone_words.proofs.laws.words.a_generic_line_is_one_entry.Goals as goal

pub returns : goal.returns
returns c = generic_entry
