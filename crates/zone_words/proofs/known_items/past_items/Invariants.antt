use Rattle.zone_words.proofs.Common.{drop, map, raw}
use Rattle.zone_words.proofs.KnownItems.{PastTo}
use Rattle.zone_words.proofs.known_items.past_items.Given as goal

abbrev pub invariant-loop-item : goal.invariant-loop-item
invariant-loop-item l = PastTo l.octets (map raw l.items) l.rest l.item-index (map raw (drop l.item-index l.items))
