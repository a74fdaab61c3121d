use Rattle.zone_wire.proofs.Common.{Option, Question, Some, ZoneAsked, agrees, ap, other_id, other_zone, refl, subst, sym, unwrap_or, zone_held, ◌+◌, ◌∙◌, ◌≡◌}
use Rattle.zone_wire.proofs.Records.Answering.{agrees_by, agrees_true}
use Rattle.zone_wire.proofs.Transfers.Progress.{has_first_id, no_first_id, asked_one, asks_other, takes_one, takes_none}
use Rattle.zone_wire.proofs.transfer.Transfer.take_head.Goals as goal
use Rattle.zone_wire.proofs.transfer.Transfer.take_head.Goals.{then-question-ne-AXFR-via-then-question-ne-AXFR, then-question-ne-AXFR-via-else-question-ne-AXFR+then-not-is_of_zone, in-Some+else-question-ne-AXFR+else-not-is_of_zone, in_default}

pub returns-then-first-id-clause-fault : goal.returns-then-first-id-clause-fault
returns-then-first-id-clause-fault c = λ before after. other_id (no_first_id before c.args.message.now.sections c.args.self.now.id after.id (λ h.
    c.if-first-id.true (c.unwrap_or-first.ensures ∙ subst (λ n. unwrap_or c.args.self.now.id n ≡ n) (sym c.id-id.ensures) h)))

pub returns-then-question-ne-AXFR-clause-fault : goal.returns-then-question-ne-AXFR-clause-fault
returns-then-question-ne-AXFR-clause-fault c = λ before after.
    let has = has_first_id before c.args.message.now.sections c.args.self.now.id after.id (subst (λ n. unwrap_or c.args.self.now.id n ≡ n) c.id-id.ensures (sym c.unwrap_or-first.ensures ∙ c.if-first-id.false)) in
    let q = asked_one c.args.message.now.sections.questions c.in-Some.question c.in-Some.ensures in
    other_zone has (asks_other before c.args.message.now.sections c.args.self.now q.at after q.one (λ kind agree. elim c.then-question-ne-AXFR.branch [
      | then-question-ne-AXFR-via-then-question-ne-AXFR w ↦ w.if-question-ne-AXFR.true (sym (ap (λ x. x.kind) q.same) ∙ kind)
      | then-question-ne-AXFR-via-else-question-ne-AXFR+then-not-is_of_zone w ↦
          (let name = ap (λ x. x.name) q.same in
          let class = ap (λ x. x.class) q.same in
          let yes = agrees_true (zone_held c.args.self.now.zone) q.at.name q.at.class agree in
          let is = w.is_of_zone.ensures in
          let not_it = w.if-not-is_of_zone.true in
          let none : ⊥ = cc in
          none)
    ]))

pub returns-clause-taken : goal.returns-clause-taken
returns-clause-taken c = λ before after.
    let has = has_first_id before c.args.message.now.sections c.args.self.now.id after.id (subst (λ n. unwrap_or c.args.self.now.id n ≡ n) c.id-id.ensures (sym c.unwrap_or-first.ensures ∙ c.if-first-id.false)) in
    elim c.match-question.branch [
      | in-Some+else-question-ne-AXFR+else-not-is_of_zone w ↦
          (let q = asked_one c.args.message.now.sections.questions w.in-Some.question w.in-Some.ensures in
          let held : Question → Option ZoneAsked = λ x. Some (record { name = x.name; class = x.class }) in
          takes_one before c.args.message.now.sections c.args.self.now _ c.id-id.result q.at after q.one c.id-id.ensures has
          (ap (λ x. x.kind) q.same ∙ w.if-question-ne-AXFR.false)
          (agrees_by (zone_held c.args.self.now.zone) q.at.name q.at.class (ap (λ x. agrees (zone_held c.args.self.now.zone) x.name x.class) q.same ∙ sym (rw w.lend.ensures.value at w.is_of_zone.ensures) ∙ w.if-not-is_of_zone.false))
          (ap (λ t. t.messages + 1) w.self-is) refl
          (ap (λ t. zone_held t.zone) w.self-is ∙ ap held (sym q.same))
          (ap (λ t. t.opening) w.self-is) (ap (λ t. t.closed) w.self-is))
      | in_default w ↦ takes_none before c.args.message.now.sections c.args.self.now _ c.id-id.result after w.in_default.ensures c.id-id.ensures has (ap (λ t. t.messages + 1) w.self-is) refl (ap (λ t. t.zone) w.self-is) (ap (λ t. t.opening) w.self-is) (ap (λ t. t.closed) w.self-is)
    ]
