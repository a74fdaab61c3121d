use Rattle.faulty_items.proofs.Common.{arith}
use Rattle.faulty_items.proofs.TouchingItems.{finds_one, many_touched}
use Rattle.faulty_items.proofs.touching.touching_items.Goals as goal

pub returns-then-len-ge-MOST_ITEMS : goal.returns-then-len-ge-MOST_ITEMS
returns-then-len-ge-MOST_ITEMS c = λ tokens cut.
    many_touched c.args.entry.now c.loop-item.rest.now c.in-Some.after.now c.loop-item.touches c.in-Some-item.item c.loop-item.found.items tokens c.in-Some.ensures.shorter
    (finds_one c.loop-item.rest.now c.in-Some.item c.in-Some-item.item c.in-Some.after.now c.in-Some-item.is c.in-Some.ensures.found)
    (omega (arith, c.len.ensures, c.if-len-ge-MOST_ITEMS.true)) c.loop-item.invariant cut
