use Rattle.type_data.proofs.Common.{refl}
use Rattle.type_data.proofs.OfKinds.Prefixes.Once.{all_prefixes, more_prefixes, prefix_at}
use Rattle.type_data.proofs.kinds.prefixes.read_prefixes.Goals as goal

pub returns-in_default-clause-fault : goal.returns-in_default-clause-fault
returns-in_default-clause-fault c = (refl, λ octets states. let has = prefix_at c.args.items.now c.loop-item.item-index _ octets c.loop-item-test.true states in c.in_default.ensures.none has.0 has.1)

pub loop-item-preserved : goal.loop-item-preserved
loop-item-preserved c = more_prefixes c.args.items.now c.loop-item.item-index _ c.in-Some.prefix c.args.out.now.items c.loop-item.out.items c.read_prefix.new.out.items c.loop-item-test.true c.loop-item.invariant c.in-Some.ensures.found c.in_ok-read_prefix.ensures

pub returns-clause-states : goal.returns-clause-states
returns-clause-states c = all_prefixes c.args.items.now c.loop-item.item-index c.args.out.now.items c.loop-item.out.items c.loop-item-test.false c.loop-item.invariant
