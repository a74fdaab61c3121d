use Rattle.zone_wire.proofs.Common.{Built, Data, IsRead, ap, fault_answered, fields_of, if_fault_passed, subst, sym}
use Rattle.zone_wire.proofs.Fields.DataReading.{data_short, laid_read, laid_refused, opaque_read, opaque_taken}
use Rattle.zone_wire.proofs.Records.Answering.{data_is_refused, data_is_read, own_data}
use Rattle.zone_wire.proofs.lent.RawRrRef.rdata.Goals as goal
use Rattle.zone_wire.proofs.lent.RawRrRef.rdata.Goals.{in-Some+in_ok-push_fields-in-Some, in-None+in_ok-push-in-None}

pub returns-in_err-class-clause-fault : goal.returns-in_err-class-clause-fault
returns-in_err-class-clause-fault c = fault_answered c.from_residual.result _ _ c.from_residual.ensures.1 c.in_err-class.ensures.fault

pub returns-in_err-push_fields-in-Some-clause-fault : goal.returns-in_err-push_fields-in-Some-clause-fault
returns-in_err-push_fields-in-Some-clause-fault c =
    if_fault_passed c.from_residual-in_err-push_fields-in-Some.result c.in_err-push_fields-in-Some.field-0.0 _ _ c.from_residual-in_err-push_fields-in-Some.ensures.1
    (λ fault bad. own_data c.args.self.now.octets c.args.self.now.at fault c.in_ok-class.ensures.class.1 c.in_ok-class.ensures.kind.1 c.in_ok-class.ensures.readable
    (data_is_refused _ c.args.self.now c.self.view_is c.self.inside.fields.offset c.are_octets.ensures.at c.self.invariant fault
    (laid_refused _ c.args.self.now c.self.view_is c.in_ok-class.class c.in_ok-class.kind c.in_ok-class.ensures.class.0 c.in_ok-class.ensures.kind.0 c.reusing-builder.result c.reusing-builder.ensures (fields_of c.in-Some.layout) fault (rw c.reusing-builder.ensures at c.in-Some.ensures) bad)))
    c.in_err-push_fields-in-Some.ensures.fault

pub returns-in_err-push-in-None-clause-fault : goal.returns-in_err-push-in-None-clause-fault
returns-in_err-push-in-None-clause-fault c =
    if_fault_passed c.from_residual-in_err-push-in-None.result c.in_err-push-in-None.field-0.0 _ _ c.from_residual-in_err-push-in-None.ensures.1
    (λ fault bad. absurd (opaque_taken _ c.args.self.now c.self.view_is c.in_ok-class.class c.in_ok-class.kind c.in_ok-class.ensures.class.0 c.in_ok-class.ensures.kind.0 c.reusing-builder.result c.reusing-builder.ensures fault (rw c.reusing-builder.ensures at c.in-None.ensures) (data_short c.self.inside.fields.message.now c.self.inside.fields.offset _ c.are_octets.ensures.at c.self.invariant).1 bad))
    c.in_err-push-in-None.ensures.fault

pub returns-in-Ok-clause-found : goal.returns-in-Ok-clause-found
returns-in-Ok-clause-found c =
    let is_read : IsRead c.args.self.now.octets c.args.self.now.at c.match-layout.builder = elim c.match-layout.branch [
      | in-Some+in_ok-push_fields-in-Some w ↦
          subst (λ (b : Built). IsRead c.args.self.now.octets c.args.self.now.at b) (sym w.builder-is)
          (laid_read _ c.args.self.now c.self.view_is c.in_ok-class.class c.in_ok-class.kind c.in_ok-class.ensures.class.0 c.in_ok-class.ensures.kind.0 c.reusing-builder.result c.reusing-builder.ensures (fields_of w.in-Some.layout) _ (rw c.reusing-builder.ensures at w.in-Some.ensures) w.in_ok-push_fields-in-Some.ensures.found)
      | in-None+in_ok-push-in-None w ↦
          subst (λ (b : Built). IsRead c.args.self.now.octets c.args.self.now.at b) (sym w.builder-is)
          (opaque_read _ c.args.self.now c.self.view_is c.in_ok-class.class c.in_ok-class.kind c.in_ok-class.ensures.class.0 c.in_ok-class.ensures.kind.0 c.reusing-builder.result c.reusing-builder.ensures _ (rw c.reusing-builder.ensures at w.in-None.ensures) w.in_ok-push-in-None.ensures.ok)
    ] in
    data_is_read _ c.args.self.now c.self.view_is c.self.inside.fields.offset c.are_octets.ensures.at c.self.invariant c.match-layout.builder c.in-Ok.rdata.octets is_read (ap (λ (d : Data). d.octets) c.in-Ok.ensures.ok)
