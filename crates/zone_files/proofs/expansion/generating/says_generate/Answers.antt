use Rattle.zone_files.proofs.Expansions.Generating.{no_word, word_said}
use Rattle.zone_files.proofs.expansion.generating.says_generate.Goals as goal

pub returns-in-Some : goal.returns-in-Some
returns-in-Some c = word_said _ c.in-Some.word.now _ c.is_word.result c.in-Some.ensures.found c.is_word.ensures

pub returns-in-None : goal.returns-in-None
returns-in-None c = no_word _ c.in-None.ensures.none
