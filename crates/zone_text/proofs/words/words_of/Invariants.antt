use Rattle.zone_text.proofs.Common.{drop, map, raw}
use Rattle.zone_text.proofs.Heads.WordsLeft.{ReadsWords}
use Rattle.zone_text.proofs.words.words_of.Given as goal

abbrev pub invariant-loop-index : goal.invariant-loop-index
invariant-loop-index l = ReadsWords (map raw l.items) l.words (drop l.index (map raw l.items))
