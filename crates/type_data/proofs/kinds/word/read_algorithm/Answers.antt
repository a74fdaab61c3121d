use Rattle.type_data.proofs.Common.{arith, fault_passed, w8}
use Rattle.type_data.proofs.OfKinds.Number.Read.{capped_fails, capped_fits}
use Rattle.type_data.proofs.kinds.word.read_algorithm.Goals as goal

pub returns-in_err-push_one_octet-clause-fault : goal.returns-in_err-push_one_octet-clause-fault
returns-in_err-push_one_octet-clause-fault c =
    fault_passed c.from_residual.result c.in_err-push_one_octet.field-0.0 _ _ c.from_residual.ensures.1 (λ fault. capped_fails _ w8 c.algorithm_of.result fault (omega arith) c.algorithm_of.ensures.found c.algorithm_of.ensures.none) c.in_err-push_one_octet.ensures.fault

pub returns-clause-states : goal.returns-clause-states
returns-clause-states c = capped_fits _ w8 c.algorithm_of.result _ _ (omega arith) c.algorithm_of.ensures.found c.in_ok-push_one_octet.ensures.states
