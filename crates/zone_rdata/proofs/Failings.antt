-- A fault that is passed on, and one that is not.
use Rattle.std.proofs.Common.{◌≡◌, Result, Err, arith}
use Rattle.std.proofs.lemmas.Result.{err_from_is_err_and}
use Rattle.std.specs.Prelude.{IfErr, IsErrAnd}
use Rattle.zone_rdata.specs.Fault.{IfFault}
use Rattle.zone_rdata.specs.declared.fault.Failing.{Failing}
use Rattle.zone_rdata.specs.declared.fault.Fault.{Fault}
use Rattle.zone_rdata.specs.declared.fault.Failing.TheVariants as failings

pub IfFault-weaker : (P Q : Fault → Type 0) (e : Failing) → ((fault : Fault) → P fault → Q fault) → IfFault P e → IfFault Q e
IfFault-weaker P Q e goes h = grind arith

pub IfErr-fault : {T : Type 0} (r : Result T Failing) (P Q : Fault → Type 0) → ((fault : Fault) → P fault → Q fault) → IfErr r (IfFault P) → IfErr r (IfFault Q)
IfErr-fault r P Q goes h = grind arith

-- the answer of a `?` on a failing
pub if_fault_passed : {T : Type 0} (r : Result T Failing) (e : Failing) (P Q : Fault → Type 0) → IsErrAnd r (λ y. y ≡ e) → ((fault : Fault) → P fault → Q fault) → IfFault P e → IfErr r (IfFault Q)
if_fault_passed r e P Q is goes h = grind (arith, err_from_is_err_and)

-- the answer of a `?` on a fault
pub fault_answered : {T : Type 0} (r : Result T Failing) (found : Fault) (P : Fault → Type 0) → IsErrAnd r (λ e. e ≡ failings.Fault found) → P found → IfErr r (IfFault P)
fault_answered r found P is holds = grind (arith, if_fault_passed)

abbrev stopped : Failing → Result (Unit {0}) Failing
stopped e = Err e

-- likewise where the callee says what each fault is that it answers
pub each_fault_passed : {T : Type 0} (r : Result T Failing) (e : Failing) (P Q : Fault → Type 0) → IsErrAnd r (λ y. y ≡ e) → ((fault : Fault) → P fault → Q fault) → ((fault : Fault) → stopped e ≡ Err (failings.Fault fault) → P fault) → IfErr r (IfFault Q)
each_fault_passed r e P Q is goes h = grind (arith, if_fault_passed)
