-- Why octets aren't printed, where a function passes it on by `?`.
use Rattle.std.proofs.Common.{◌≡◌, Result, arith}
use Rattle.std.proofs.lemmas.Result.{err_from_is_err_and}
use Rattle.std.specs.Prelude.{IfErr, IsErrAnd}
use Rattle.type_data.specs.Printed.{IfNoData}
use Rattle.type_data.specs.declared.unprinted.Unprinted.{Unprinted}

pub none_passed : {T : Type 0} (r : Result T Unprinted) (e : Unprinted) (Is Becomes : Type 0) → IsErrAnd r (λ y. y ≡ e) → (Is → Becomes) → IfNoData Is e → IfErr r (IfNoData Becomes)
none_passed r e Is Becomes is goes h = grind (arith, err_from_is_err_and)
