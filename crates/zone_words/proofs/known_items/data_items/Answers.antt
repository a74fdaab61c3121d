use Rattle.zone_words.proofs.Common.{refl}
use Rattle.zone_words.proofs.KnownItems.{all_stays, found_all, found_more, found_none}
use Rattle.zone_words.proofs.known_items.data_items.Goals as goal

pub loop-item-init : goal.loop-item-init
loop-item-init c = rw (c.in_ok-reserve.ensures.items, c.clear-2.ensures.items) (found_none c.args.octets.now _ _ c.clear.ensures.items)

pub loop-item-preserved : goal.loop-item-preserved
loop-item-preserved c = found_more c.args.octets.now c.args.items.now c.loop-item.rest.now c.in_ok-ahead.ahead.now c.past_item-rest.result.now c.loop-item.item-index _ _ _ _ _ _ c.loop-item-test.true c.in_ok-ahead.ensures.passed c.in_ok-ahead.ensures.kept c.past_item-rest.ensures c.in_ok-push.ensures.items refl refl c.loop-item.invariant

pub returns-clause-found : goal.returns-clause-found
returns-clause-found c = found_all c.args.octets.now c.args.items.now c.loop-item.rest.now _ _ c.loop-item.item-index c.loop-item-test.false c.loop-item.invariant

pub returns-clause-staying : goal.returns-clause-staying
returns-clause-staying c = all_stays c.args.octets.now c.args.items.now c.loop-item.rest.now _ _ _ c.loop-item.item-index c.loop-item-test.false c.loop-item.invariant c.in_ok-take_gap.ensures.kept
