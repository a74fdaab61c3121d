use Rattle.type_data.proofs.Common.{arith, found_passed, w8}
use Rattle.type_data.proofs.OfKinds.Number.Read.{over_fails}
use Rattle.type_data.proofs.kinds.number.push_one_octet.Goals as goal

pub returns-in_err-number-clause-fault : goal.returns-in_err-number-clause-fault
returns-in_err-number-clause-fault c = found_passed c.from_residual.result c.in_err-number.field-0.0 _ c.from_residual.ensures.1 (over_fails w8 _ c.args.number _ (omega (arith, c.from.ensures)) c.in_err-number.ensures.fault)
