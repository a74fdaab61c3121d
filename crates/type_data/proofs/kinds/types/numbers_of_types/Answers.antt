use Rattle.type_data.proofs.Common.{refl}
use Rattle.type_data.proofs.OfKinds.Types.Items.{each_at, names_more}
use Rattle.type_data.proofs.kinds.types.numbers_of_types.Goals as goal

pub returns-in_default-clause-fault : goal.returns-in_default-clause-fault
returns-in_default-clause-fault c = (refl, λ octets states. let has = each_at c.args.items.now c.loop-item.item-index _ c.loop-item-test.true states.each in c.in_default.ensures.none has.0 has.1)

pub loop-item-preserved : goal.loop-item-preserved
loop-item-preserved c = names_more c.args.items.now c.loop-item.item-index _ c.loop-item.numbers.items _ c.in-Some.number c.loop-item-test.true c.loop-item.invariant c.in-Some.ensures.found c.in_ok-extend_from_slice.ensures.items
