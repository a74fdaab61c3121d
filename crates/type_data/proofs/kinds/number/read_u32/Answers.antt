use Rattle.type_data.proofs.Common.{arith, found_passed, refl, w32}
use Rattle.type_data.proofs.OfKinds.Number.Read.{capped_fails, over_fails}
use Rattle.type_data.proofs.kinds.number.read_u32.Goals as goal

pub returns-in_err-number-clause-fault : goal.returns-in_err-number-clause-fault
returns-in_err-number-clause-fault c =
    found_passed c.from_residual.result c.in_err-number.field-0.0 _ c.from_residual.ensures.1
    (capped_fails _ w32 c.decimal_of.result _ (omega arith) c.decimal_of.ensures.found c.decimal_of.ensures.none (over_fails w32 _ c.decimal_of.result _ refl c.in_err-number.ensures.fault))
