use Rattle.type_data.proofs.Common.{FailsBare, StatesBare, fault_passed, map, raw_item, refl}
use Rattle.type_data.proofs.EachItems.{all_read, item_fails, item_read, none_read}
use Rattle.type_data.proofs.field.BareKind.read_each.Goals as goal

pub loop-item-init : goal.loop-item-init
loop-item-init c = none_read (StatesBare c.args.origin.now c.args.self) (FailsBare c.args.origin.now c.args.self) (map raw_item c.args.items.now) c.args.out.now.items

pub returns-in_err-read_item-clause-fault : goal.returns-in_err-read_item-clause-fault
returns-in_err-read_item-clause-fault c =
    fault_passed c.from_residual.result c.in_err-read_item.field-0.0 _ _ c.from_residual.ensures.1
    (λ fault. item_fails (StatesBare c.args.origin.now c.args.self) (FailsBare c.args.origin.now c.args.self) c.args.items.now c.loop-item.item-index _ _ _ _ fault c.loop-item-test.true refl c.loop-item.invariant)
    c.in_err-read_item.ensures.fault

pub loop-item-preserved : goal.loop-item-preserved
loop-item-preserved c = item_read (StatesBare c.args.origin.now c.args.self) (FailsBare c.args.origin.now c.args.self) c.args.items.now c.loop-item.item-index _ _ _ _ _ c.loop-item-test.true refl c.loop-item.invariant c.in_ok-read_item.ensures.states

pub returns-clause-states : goal.returns-clause-states
returns-clause-states c = all_read (StatesBare c.args.origin.now c.args.self) (FailsBare c.args.origin.now c.args.self) c.args.items.now c.loop-item.item-index _ _ c.loop-item-test.false c.loop-item.invariant
