use Rattle.type_data.proofs.Common.{arith, common_steps, length, refl, takes_one, ◌-◌}
use Rattle.type_data.proofs.ReadFields.{data_fault_passed, field_fails, field_read, within}
use Rattle.type_data.proofs.data.push_fields.Goals as goal

pub returns-in_err-push_field-clause-fault : goal.returns-in_err-push_field-clause-fault
returns-in_err-push_field-clause-fault c =
    data_fault_passed c.from_residual.result c.in_err-push_field.field-0.0 _ _ c.from_residual.ensures.1
    (λ name fault. field_fails c.args.origin.now c.args.fields.now c.loop-field.field-index _ _ c.args.items.now c.loop-field.place c.count_of.result _ _ _ name fault c.loop-field-test.true refl c.loop-field.invariant.0 c.count_of.ensures (grind (arith, common_steps)) c.loop-field.invariant.1)
    c.in_err-push_field.ensures.fault

pub loop-field-preserved : goal.loop-field-preserved
loop-field-preserved c = (
  (within (takes_one _) (length c.args.items.now - c.loop-field.place) c.count_of.result c.loop-field.place (length c.args.items.now) c.count_of.ensures c.loop-field.invariant.0 refl),
  field_read c.args.origin.now c.args.fields.now c.loop-field.field-index _ _ c.args.items.now c.loop-field.place c.count_of.result _ _ _ _ _ c.loop-field-test.true refl c.loop-field.invariant.0 c.count_of.ensures refl (grind (arith, common_steps)) c.loop-field.invariant.1 c.in_ok-push_field.ensures.states,
)
