use Rattle.type_data.proofs.Common.{IsNonDecreasingBy-from_sort, fault_passed, refl}
use Rattle.type_data.proofs.OfParameters.KeyLists.{no_keys_listed, not_ascending}
use Rattle.type_data.proofs.parameters.keys.ascending_keys.Goals as goal

pub returns-in_err-numbers-clause-fault : goal.returns-in_err-numbers-clause-fault
returns-in_err-numbers-clause-fault c = fault_passed c.from_residual.result c.in_err-numbers.field-0.0 _ _ c.from_residual.ensures.1 (λ fault none. (none.0, (λ numbers is. none.1 is.stated is.each))) c.in_err-numbers.ensures.fault

pub returns-then-not-ascend-clause-fault : goal.returns-then-not-ascend-clause-fault
returns-then-not-ascend-clause-fault c =
    let sorted = c.sort_unstable.new.self.items in
    rw c.into.ensures (refl, no_keys_listed c.args.text.now c.in_ok-numbers.numbers.items sorted c.in_ok-numbers.ensures.found c.sort_unstable.ensures.permutation (IsNonDecreasingBy-from_sort (λ x. x) sorted c.sort_unstable.ensures.sorted) (not_ascending sorted c.as_slice.result.now c.ascend.result c.if-not-ascend.true c.as_slice.ensures.value c.ascend.ensures.1))
