use Rattle.faulty_items.proofs.Common.{map, raw}
use Rattle.faulty_items.proofs.SpeltValues.{SpeltTo}
use Rattle.faulty_items.proofs.laid_out.judge.Given as goal

abbrev pub invariant-loop-item : goal.invariant-loop-item
invariant-loop-item l = SpeltTo l.fn.origin l.fn.field (map raw l.fn.own) l.item-index
