-- Faults that a function passes on, under what its own contract says of them.
use Rattle.std.proofs.Common.{◌≡◌, Result, arith}
use Rattle.std.proofs.lemmas.Result.{err_from_is_err_and}
use Rattle.std.specs.Prelude.{IfErr, IsErrAnd}
use Rattle.type_data.specs.Fault.{IfFault}
use Rattle.type_data.specs.declared.fault.WordsFailing.{WordsFailing}
use Rattle.type_data.specs.declared.fault.WordsFailing.TheVariants as failings
use Rattle.type_data.specs.declared.fault.WordsFault.{WordsFault}

-- by `?`
pub fault_passed : {T : Type 0} (r : Result T WordsFailing) (e : WordsFailing) (P Q : WordsFault → Type 0) → IsErrAnd r (λ y. y ≡ e) → ((fault : WordsFault) → P fault → Q fault) → IfFault P e → IfErr r (IfFault Q)
fault_passed r e P Q is goes h = grind (arith, err_from_is_err_and)

-- as the answer of a last call
pub fault_answered : {T : Type 0} (r : Result T WordsFailing) (P Q : WordsFault → Type 0) → ((fault : WordsFault) → P fault → Q fault) → IfErr r (IfFault P) → IfErr r (IfFault Q)
fault_answered r P Q goes h = grind arith

-- a fault that becomes a failing by `?`
pub found_passed : {T : Type 0} (r : Result T WordsFailing) (found : WordsFault) (Q : WordsFault → Type 0) → IsErrAnd r (λ e. e ≡ failings.Fault found) → Q found → IfErr r (IfFault Q)
found_passed r found Q is holds = grind (arith, fault_passed)
