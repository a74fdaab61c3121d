use Rattle.zone_words.proofs.Common.{map, raw, take}
use Rattle.zone_words.proofs.further.are_on_one_line.Given as goal
use Rattle.zone_words.specs.Machine.Further.{QuotesAreOnOneLine}

abbrev pub invariant-loop-item : goal.invariant-loop-item
invariant-loop-item l = QuotesAreOnOneLine (map raw (take l.item-index l.items))
