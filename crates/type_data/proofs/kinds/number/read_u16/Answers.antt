use Rattle.type_data.proofs.Common.{arith, fault_passed, w16}
use Rattle.type_data.proofs.OfKinds.Number.Read.{capped_fails}
use Rattle.type_data.proofs.kinds.number.read_u16.Goals as goal

pub returns-in_err-push_two_octets-clause-fault : goal.returns-in_err-push_two_octets-clause-fault
returns-in_err-push_two_octets-clause-fault c =
    fault_passed c.from_residual.result c.in_err-push_two_octets.field-0.0 _ _ c.from_residual.ensures.1 (λ fault. capped_fails _ w16 c.decimal_of.result fault (omega arith) c.decimal_of.ensures.found c.decimal_of.ensures.none) c.in_err-push_two_octets.ensures.fault
