use Rattle.zone_wire.proofs.Common.{Err, List, ap, arith, false≢true, fault_answered, if_fault_passed, ℕ}
use Rattle.zone_wire.proofs.Fields.FieldReading.{unrefused}
use Rattle.zone_wire.proofs.Fields.DataReading.{next_string, string_past, string_bad}
use Rattle.zone_wire.proofs.data.push_strings.Goals as goal

pub returns-in_err-string-clause-fault : goal.returns-in_err-string-clause-fault
returns-in_err-string-clause-fault c =
    fault_answered c.from_residual.result _ _ c.from_residual.ensures.1
    (string_bad c.args.cursor.now c.loop-builder.cursor c.args.builder.now c.loop-builder.builder _ (λ same. false≢true (c.loop-builder-test.ensures.1 same)) c.loop-builder.invariant c.in_err-string.ensures.fault)

pub loop-builder-smaller : goal.loop-builder-smaller
loop-builder-smaller c =
    let past = string_past c.args.cursor.now c.loop-builder.cursor c.args.builder.now c.loop-builder.builder c.loop-builder.invariant c.string.new.self _ c.in_ok-string.ensures.found in
    omega (arith, past, c.string.new.self.order, ap (λ (d : List ℕ × ℕ). d.1) c.in_ok-string.ensures.found.same)

pub returns-in_err-push-clause-fault : goal.returns-in_err-push-clause-fault
returns-in_err-push-clause-fault c =
    let awaits = next_string c.args.cursor.now c.loop-builder.cursor c.args.builder.now c.loop-builder.builder c.loop-builder.invariant c.requires.next in
    if_fault_passed c.from_residual-in_err-push.result c.in_err-push.field-0.0 _ _ c.from_residual-in_err-push.ensures.1 (λ fault bad. bad)
    (unrefused c.loop-builder.cursor c.string.new.self c.loop-builder.builder _ _ awaits tt c.in_ok-string.ensures.short c.in_ok-string.ensures.found _ (Err c.in_err-push.field-0.0) c.in_err-push.ensures.fault)
