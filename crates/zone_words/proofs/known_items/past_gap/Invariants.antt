use Rattle.zone_words.proofs.Common.{length}
use Rattle.zone_words.proofs.KnownItems.{ComesTo}
use Rattle.zone_words.proofs.known_items.past_gap.Given as goal

abbrev pub invariant-loop-after : goal.invariant-loop-after
invariant-loop-after l = ComesTo l.octets l.rest

abbrev pub decreases-loop-after : goal.decreases-loop-after
decreases-loop-after l = length l.rest
