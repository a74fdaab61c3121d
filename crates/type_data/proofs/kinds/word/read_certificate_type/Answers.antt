use Rattle.type_data.proofs.Common.{arith, fault_passed, w16}
use Rattle.type_data.proofs.OfKinds.Number.Read.{capped_fails, capped_fits}
use Rattle.type_data.proofs.kinds.word.read_certificate_type.Goals as goal

pub returns-in_err-push_two_octets-clause-fault : goal.returns-in_err-push_two_octets-clause-fault
returns-in_err-push_two_octets-clause-fault c =
    fault_passed c.from_residual.result c.in_err-push_two_octets.field-0.0 _ _ c.from_residual.ensures.1 (λ fault. capped_fails _ w16 c.number_of_word.result fault (omega arith) c.number_of_word.ensures.found c.number_of_word.ensures.none) c.in_err-push_two_octets.ensures.fault

pub returns-clause-states : goal.returns-clause-states
returns-clause-states c = capped_fits _ w16 c.number_of_word.result _ _ (omega arith) c.number_of_word.ensures.found c.in_ok-push_two_octets.ensures.states
