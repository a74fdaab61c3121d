use Rattle.faulty_items.proofs.Common.{DataItem, map, raw, take, ◌≡◌}
use Rattle.faulty_items.proofs.entry.plain_items.Given as goal

abbrev pub invariant-loop-item : goal.invariant-loop-item
invariant-loop-item l = map raw l.plain.items ≡ map (λ (x : DataItem). raw x.item) (take l.item-index l.items)
