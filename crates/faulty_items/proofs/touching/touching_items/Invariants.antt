use Rattle.faulty_items.proofs.Common.{length}
use Rattle.faulty_items.proofs.TouchingItems.{HaveTouched}
use Rattle.faulty_items.proofs.touching.touching_items.Given as goal

abbrev pub invariant-loop-item : goal.invariant-loop-item
invariant-loop-item l = HaveTouched l.fn.entry l.rest l.touches l.found.items

abbrev pub decreases-loop-item : goal.decreases-loop-item
decreases-loop-item l = length l.rest
