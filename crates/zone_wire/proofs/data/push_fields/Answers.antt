use Rattle.zone_wire.proofs.Common.{arith, fields_of, if_fault_passed, sym, ◌∙◌}
use Rattle.zone_wire.proofs.Fields.DataReading.{field_ready, field_bad, all_values}
use Rattle.zone_wire.proofs.data.push_fields.Goals as goal

pub push_field-requires : goal.push_field-requires
push_field-requires c = record { next = field_ready c.args.cursor.now (fields_of c.args.fields) c.args.builder.now c.requires.laid c.requires.new c.loop-field.cursor c.loop-field.builder c.loop-field.count c.in-Some.field (sym c.field.ensures ∙ c.in-Some.is) c.loop-field.invariant }

pub returns-in_err-push_field-clause-fault : goal.returns-in_err-push_field-clause-fault
returns-in_err-push_field-clause-fault c =
    if_fault_passed c.from_residual.result c.in_err-push_field.field-0.0 _ _ c.from_residual.ensures.1
    (λ fault bad. field_bad c.args.cursor.now (fields_of c.args.fields) c.args.builder.now c.requires.laid c.requires.new c.loop-field.cursor c.loop-field.builder c.loop-field.count c.in-Some.field fault (sym c.field.ensures ∙ c.in-Some.is) c.loop-field.invariant bad)
    c.in_err-push_field.ensures.fault

pub returns-clause-found : goal.returns-clause-found
returns-clause-found c = all_values c.args.cursor.now (fields_of c.args.fields) c.args.builder.now c.requires.laid c.requires.new c.loop-field.cursor c.loop-field.builder c.loop-field.count (sym c.field.ensures ∙ c.in_default.is) (grind arith) c.loop-field.invariant
