use Rattle.zone_rdata.proofs.Common.{refl, each_fault_passed}
use Rattle.zone_rdata.proofs.Items.Values.{spelt_bad}
use Rattle.zone_rdata.proofs.field.strings.push_strings.Goals as goal

pub returns-in_err-push_string-clause-fault : goal.returns-in_err-push_string-clause-fault
returns-in_err-push_string-clause-fault c =
    each_fault_passed c.from_residual.result c.in_err-push_string.field-0.0 _ _ c.from_residual.ensures.1
    (λ fault bad. spelt_bad c.args.items.now c.args.items.now c.loop-item.item-index _ _ _ _ fault c.loop-item-test.true refl c.loop-item.invariant bad)
    c.in_err-push_string.ensures.fault
