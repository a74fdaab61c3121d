use Rattle.type_data.proofs.Common.{fault_passed}
use Rattle.type_data.proofs.parameters.keys.read_mandatory.Goals as goal

pub returns-in_err-numbers-clause-fault : goal.returns-in_err-numbers-clause-fault
returns-in_err-numbers-clause-fault c = fault_passed c.from_residual.result c.in_err-numbers.field-0.0 _ _ c.from_residual.ensures.1 (λ fault none. (none.0, λ octets is. none.1 is.0 is.1)) c.in_err-numbers.ensures.fault
