use Rattle.type_data.proofs.Common.{arith, fault_passed, w8}
use Rattle.type_data.proofs.OfKinds.Number.Read.{capped_fails}
use Rattle.type_data.proofs.kinds.number.read_u8.Goals as goal

pub returns-in_err-push_one_octet-clause-fault : goal.returns-in_err-push_one_octet-clause-fault
returns-in_err-push_one_octet-clause-fault c =
    fault_passed c.from_residual.result c.in_err-push_one_octet.field-0.0 _ _ c.from_residual.ensures.1 (λ fault. capped_fails _ w8 c.decimal_of.result fault (omega arith) c.decimal_of.ensures.found c.decimal_of.ensures.none) c.in_err-push_one_octet.ensures.fault
