use Rattle.type_data.proofs.Common.{arith, fault_passed, length-map, map, raw_item}
use Rattle.type_data.proofs.OfKinds.Joined.Items.{many_fail}
use Rattle.type_data.proofs.kinds.joined.joined_text.Goals as goal

pub returns-in_err-joined-in_default-clause-fault : goal.returns-in_err-joined-in_default-clause-fault
returns-in_err-joined-in_default-clause-fault c =
    fault_passed c.from_residual.result c.in_err-joined-in_default.field-0.0 _ _ c.from_residual.ensures.1
    (λ fault. many_fail c.args.own (map raw_item c.args.items.now) fault (omega (arith, c.in_default.len_at_least, length-map c.args.items.now raw_item)))
    c.in_err-joined-in_default.ensures.fault
