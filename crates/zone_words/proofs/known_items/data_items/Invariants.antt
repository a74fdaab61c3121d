use Rattle.zone_words.proofs.Common.{drop, map, raw}
use Rattle.zone_words.proofs.KnownItems.{FindsTo}
use Rattle.zone_words.proofs.known_items.data_items.Given as goal

abbrev pub invariant-loop-item : goal.invariant-loop-item
invariant-loop-item l = FindsTo l.octets (map raw l.items) l.rest (map raw (drop l.item-index l.items)) l.found.items l.staying.items
