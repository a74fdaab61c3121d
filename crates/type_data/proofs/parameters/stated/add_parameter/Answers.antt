use Rattle.type_data.proofs.Common.{AppendsStated, IsThere, StatesValue, again, fault_passed, keyless, subst, sym, ◌∙◌}
use Rattle.type_data.proofs.OfParameters.Reading.{found_there, parameter_added, parameter_fails}
use Rattle.type_data.specs.Parameters.Machine.Parts.{text_of}
use Rattle.type_data.proofs.parameters.stated.add_parameter.Goals as goal

pub returns-in_default-clause-fault : goal.returns-in_default-clause-fault
returns-in_default-clause-fault c = rw c.into.ensures (λ before holds. keyless c.in_default.ensures.none)

pub returns-then-contains_key-clause-fault : goal.returns-then-contains_key-clause-fault
returns-then-contains_key-clause-fault c = rw c.into-then-contains_key.ensures (λ before holds. (again c.in-Some.key c.in-Some.ensures.found (subst (IsThere before) c.number-number.ensures (found_there c.args.stated.now before c.number-number.result holds (sym c.contains_key.ensures ∙ c.if-contains_key.true)))))

pub returns-in_err-read_value-clause-fault : goal.returns-in_err-read_value-clause-fault
returns-in_err-read_value-clause-fault c = fault_passed c.from_residual.result c.in_err-read_value.field-0.0 _ _ c.from_residual.ensures.1 (λ fault fails before holds. parameter_fails (text_of c.args.text) c.in-Some.key c.number-number.result c.args.stated.now before fault c.in-Some.ensures.found c.number-number.ensures (sym c.contains_key.ensures ∙ c.if-contains_key.false) fails holds) c.in_err-read_value.ensures.fault

pub returns-in-Ok-clause-adds : goal.returns-in-Ok-clause-adds
returns-in-Ok-clause-adds c = parameter_added (text_of c.args.text) c.in-Some.key c.number-number.result c.read_value.new.out c.args.stated.now (record { values = c.insert.new.self; required = c.read_value.new.required }) c.in-Some.ensures.found c.number-number.ensures (sym c.contains_key.ensures ∙ c.if-contains_key.false) (subst (λ t. AppendsStated (StatesValue c.in-Some.key c.args.text.value.now) t c.read_value.new.out.items) c.new-value.ensures.items c.in_ok-read_value.ensures.stated) c.in_ok-read_value.ensures.required c.in-Ok.ensures.entries
