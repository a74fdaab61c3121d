use Rattle.type_data.proofs.Common.{arith, fault_passed, nat_tests, refl}
use Rattle.type_data.proofs.OfKinds.Strings.Items.{string_appended, string_fails, strings_appended}
use Rattle.type_data.proofs.kinds.strings.read_strings.Goals as goal

pub returns-in_err-read_string-clause-fault : goal.returns-in_err-read_string-clause-fault
returns-in_err-read_string-clause-fault c =
    fault_passed c.from_residual.result c.in_err-read_string.field-0.0 _ _ c.from_residual.ensures.1
    (λ fault. string_fails c.args.items.now c.loop-item.item-index _ _ _ _ fault c.loop-item-test.true refl c.loop-item.invariant)
    c.in_err-read_string.ensures.fault

pub loop-item-preserved : goal.loop-item-preserved
loop-item-preserved c = string_appended c.args.items.now c.loop-item.item-index _ _ _ _ _ c.loop-item-test.true refl c.loop-item.invariant c.in_ok-read_string.ensures.states

pub returns-clause-states : goal.returns-clause-states
returns-clause-states c = strings_appended c.args.items.now c.loop-item.item-index _ _ (grind (arith, nat_tests, c.is_empty.ensures, c.if-is_empty.false)) c.loop-item-test.false c.loop-item.invariant
