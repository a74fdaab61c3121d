use Rattle.type_data.proofs.Common.{arith, at_field, drop, given, length-drop, length-map, sym, ◌∙◌}
use Rattle.type_data.proofs.ReadFields.{data_fault_answered, whole_fails}
use Rattle.type_data.proofs.data.read_fields.Goals as goal

pub returns-in-Some-clause-fault : goal.returns-in-Some-clause-fault
returns-in-Some-clause-fault c =
    whole_fails _ _ _ _ _ _ _ _ _ _ c.clear.ensures.items (sym (length-map (drop c.in-Ok.count c.args.items.now) given ∙ length-drop c.in-Ok.count c.args.items.now)) (grind (arith, c.len.ensures)) c.in-Ok.ensures.states c.last_name.ensures c.in-Some.ensures.some

pub returns-in-Err-clause-fault : goal.returns-in-Err-clause-fault
returns-in-Err-clause-fault c = data_fault_answered c.in-Err.failing _ _ (λ name fault bad. at_field fault bad) c.in-Err.ensures.fault
