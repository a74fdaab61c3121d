use Rattle.faulty_items.proofs.ShownOctets.{shown_all}
use Rattle.faulty_items.proofs.shown.ShownItem.of.Goals as goal

pub returns : goal.returns
returns c = shown_all c.args.item.now _ _ _ c.loop-octet.octet-index _ c.split_at.ensures.front c.min.ensures c.loop-octet-test.false c.loop-octet.invariant.0 c.push.ensures.items
