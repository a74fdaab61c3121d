use Rattle.zone_words.proofs.KnownItems.{all_past, next_past}
use Rattle.zone_words.proofs.known_items.past_items.Goals as goal

pub loop-item-preserved : goal.loop-item-preserved
loop-item-preserved c = next_past c.args.octets.now c.args.items.now c.loop-item.rest.now c.past_gap.result.now c.past_item-rest.result.now c.loop-item.item-index _ c.loop-item-test.true c.past_gap.ensures c.past_item-rest.ensures c.loop-item.invariant

pub returns : goal.returns
returns c = all_past c.args.octets.now c.args.items.now c.loop-item.rest.now c.loop-item.item-index c.loop-item-test.false c.loop-item.auto.item-index-end c.loop-item.invariant
