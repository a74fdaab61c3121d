-- Why parameters aren't printed, as a function passes it on.
use Rattle.type_data.proofs.Common.{IfErr, IsErrAnd, List, Result, subst, ℕ, ◌++◌, ◌≡◌}
use Rattle.type_data.proofs.Printed.PassedNone.{none_passed}
use Rattle.type_data.specs.Parameters.Machine.Printed.{StopsAs}
use Rattle.type_data.specs.Printed.{IfNoData}
use Rattle.type_data.specs.declared.unprinted.Unprinted.{Unprinted}
use Rattle.type_data.specs.declared.unprinted.Unprinted.TheVariants as answers

pub if_no_data : (e : Unprinted) (P Q : Type 0) → (P → Q) → IfNoData P e → IfNoData Q e
if_no_data answers.NoData P Q goes h = goes h
if_no_data answers.OutOfMemory P Q goes h = tt

pub stops_passed : {T : Type 0} (r : Result T Unprinted) (e : Unprinted) (P Q : Type 0) (old new : List ℕ) → IsErrAnd r (λ y. y ≡ e) → (P → Q) → (added : List ℕ) → new ≡ old ++ added → IfNoData P e → IfErr r (IfNoData (StopsAs Q old new))
stops_passed r e P Q old new is goes added appended h = none_passed r e P (StopsAs Q old new) is (λ p. record { reason = goes p; added = added; appended = appended }) h

-- where nothing is printed
pub reason_of : (e : Unprinted) (P : Type 0) → e ≡ answers.NoData → IfNoData P e → P
reason_of e P is h = subst (IfNoData P) is h
