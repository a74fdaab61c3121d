use Rattle.type_data.proofs.Common.{arith, fault_passed, w8}
use Rattle.type_data.proofs.OfKinds.Number.Read.{capped_fails, capped_fits}
use Rattle.type_data.proofs.kinds.word.read_notify_scheme.Goals as goal

pub returns-in_err-push_one_octet-clause-fault : goal.returns-in_err-push_one_octet-clause-fault
returns-in_err-push_one_octet-clause-fault c =
    fault_passed c.from_residual.result c.in_err-push_one_octet.field-0.0 _ _ c.from_residual.ensures.1 (λ fault. capped_fails _ w8 c.number_of_word.result fault (omega arith) c.number_of_word.ensures.found c.number_of_word.ensures.none) c.in_err-push_one_octet.ensures.fault

pub returns-clause-states : goal.returns-clause-states
returns-clause-states c = capped_fits _ w8 c.number_of_word.result _ _ (omega arith) c.number_of_word.ensures.found c.in_ok-push_one_octet.ensures.states
