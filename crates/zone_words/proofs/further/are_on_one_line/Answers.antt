use Rattle.zone_words.proofs.Common.{refl}
use Rattle.zone_words.proofs.Turns.{line_lost}
use Rattle.zone_words.proofs.further.are_on_one_line.Goals as goal

pub returns-then-not-is_on_one_line : goal.returns-then-not-is_on_one_line
returns-then-not-is_on_one_line c = line_lost c.args.items.now c.loop-item.item-index _ _ c.is_on_one_line.result c.loop-item-test.true refl c.is_on_one_line.ensures c.if-not-is_on_one_line.true
