use Rattle.faulty_items.proofs.EntryParts.{plain_all}
use Rattle.faulty_items.proofs.entry.plain_items.Goals as goal

pub returns : goal.returns
returns c = plain_all c.args.items.now c.loop-item.item-index c.loop-item.plain.items c.loop-item-test.false c.loop-item.invariant
