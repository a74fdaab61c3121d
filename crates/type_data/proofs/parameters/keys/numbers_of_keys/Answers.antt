use Rattle.type_data.proofs.Common.{AllZip, IsKeyText, fault_passed, listed, subst, sym}
use Rattle.type_data.proofs.OfParameters.Lists.{HasListed, lists_more, lists_all, lists_stop, lists_stop_last}
use Rattle.type_data.proofs.parameters.keys.numbers_of_keys.Goals as goal

pub returns-in_err-number_of_key-clause-fault : goal.returns-in_err-number_of_key-clause-fault
returns-in_err-number_of_key-clause-fault c = fault_passed c.from_residual.result c.in_err-number_of_key.field-0.0 _ _ c.from_residual.ensures.1 (λ fault none. (none.0, lists_stop IsKeyText c.args.text.now c.loop-key.rest.now c.in-Some.key.now c.in-Some.after.now c.loop-key.numbers.items c.loop-key.invariant c.in-Some.ensures.found none.1)) c.in_err-number_of_key.ensures.fault

pub loop-key-preserved : goal.loop-key-preserved
loop-key-preserved c = subst (HasListed IsKeyText c.args.text.now c.in-Some.after.now) (sym c.in_ok-extend_from_slice.ensures.items) (lists_more IsKeyText c.args.text.now c.loop-key.rest.now c.in-Some.key.now c.in-Some.after.now c.loop-key.numbers.items _ c.loop-key.invariant c.in-Some.ensures.found c.in_ok-number_of_key.ensures.found)

pub returns-in_err-number_of_key-2-clause-fault : goal.returns-in_err-number_of_key-2-clause-fault
returns-in_err-number_of_key-2-clause-fault c = fault_passed c.from_residual-in_err-number_of_key-2.result c.in_err-number_of_key-2.field-0.0 _ _ c.from_residual-in_err-number_of_key-2.ensures.1 (λ fault none. (none.0, lists_stop_last IsKeyText c.args.text.now c.loop-key.rest.now c.loop-key.numbers.items c.loop-key.invariant c.in_default.ensures.none none.1)) c.in_err-number_of_key-2.ensures.fault

pub returns-clause-found : goal.returns-clause-found
returns-clause-found c = subst (AllZip IsKeyText (listed c.args.text.now)) (sym c.in_ok-extend_from_slice-2.ensures.items) (lists_all IsKeyText c.args.text.now c.loop-key.rest.now c.loop-key.numbers.items _ c.loop-key.invariant c.in_default.ensures.none c.in_ok-number_of_key-2.ensures.found)
