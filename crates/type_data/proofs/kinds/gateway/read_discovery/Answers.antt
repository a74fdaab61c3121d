use Rattle.type_data.proofs.Common.{arith, found_passed}
use Rattle.type_data.proofs.OfKinds.Gateway.Fields.{capped_over}
use Rattle.type_data.proofs.kinds.gateway.read_discovery.Goals as goal

pub returns-in_err-at_most-clause-fault : goal.returns-in_err-at_most-clause-fault
returns-in_err-at_most-clause-fault c = found_passed c.from_residual.result c.in_err-at_most.field-0.0 _ c.from_residual.ensures.1 (capped_over c.args.text.now 1 c.decimal_of.result _ (omega arith) c.decimal_of.ensures.found c.decimal_of.ensures.none c.in_err-at_most.ensures.fault)
