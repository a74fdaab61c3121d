use Rattle.zone_words.proofs.Common.{length}
use Rattle.zone_words.proofs.KnownItems.{PassesTo}
use Rattle.zone_words.proofs.known_items.take_any_gap.Given as goal

abbrev pub invariant-loop-after : goal.invariant-loop-after
invariant-loop-after l = PassesTo l.octets l.rest l.fn.staying.items l.staying.items

abbrev pub decreases-loop-after : goal.decreases-loop-after
decreases-loop-after l = length l.rest
