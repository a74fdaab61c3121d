use Rattle.zone_rdata.specs.Lent.{record_of}
use Rattle.zone_rdata.specs.Record.{record_with}
use Rattle.zone_wire.proofs.Common.{List, Placed, Transfer, [], ap, refl, sym, zone_held, ◌++◌, ◌∙◌, ◌∷◌, ◌≡◌}
use Rattle.zone_wire.proofs.Records.Answering.{order_stands, stated}
use Rattle.zone_wire.proofs.Transfers.Progress.{closing_gains, here_at, opening_gains, other_gains}
use Rattle.zone_wire.proofs.transfer.Transfer.take_answer.Goals as goal
use Rattle.zone_wire.proofs.transfer.Transfer.take_answer.Goals.{then-is_none+in_ok-open, else-is_none+else-is_soa}

pub returns-then-is_soa-clause-taken : goal.returns-then-is_soa-clause-taken
returns-then-is_soa-clause-taken c = λ questions placed among.
    let rr = record_of c.of_parts-rr.result in
    let states = stated _ c.args.answer.now c.answer.view_is _ _ _ c.in_ok-rdata.field-0 rr (rw (c.copy.ensures, c.lend.ensures) at c.of_parts-rr.ensures.value) c.of_parts-rr.ensures.record refl refl c.in_ok-rdata.ensures.class c.in_ok-rdata.ensures.kind c.counted_ttl-ttl.ensures.value c.in_ok-rdata.ensures.found c.in_ok-rdata.ensures.readable in
    record {
      rr = rr;
      states = states;
      stands = order_stands questions placed rr (sym (c.in_default.ensures questions placed among));
      gains = closing_gains questions placed (here_at rr c.args.self.now.messages c.args.answer.now.at.offset) c.args.self.now _ among c.if-is_none.ensures (c.is_soa.ensures.0 c.if-is_soa.true) refl;
    }

pub returns-clause-taken : goal.returns-clause-taken
returns-clause-taken c = λ questions placed among.
    let old = c.args.self.now in
    let offset = c.args.answer.now.at.offset in
    let rr = record_of c.of_parts-rr.result in
    let made = rw (c.copy.ensures, c.lend.ensures) at c.of_parts-rr.ensures.value in
    let states = stated _ c.args.answer.now c.answer.view_is _ _ _ c.in_ok-rdata.field-0 rr made c.of_parts-rr.ensures.record refl refl c.in_ok-rdata.ensures.class c.in_ok-rdata.ensures.kind c.counted_ttl-ttl.ensures.value c.in_ok-rdata.ensures.found c.in_ok-rdata.ensures.readable in
    let stands = order_stands questions placed rr (sym (c.in_default.ensures questions placed among)) in
    let same : record_with c.copy-owner.result c.counted_ttl-ttl.result c.in_ok-rdata.field-0 ≡ rr = rw c.copy-owner.ensures (sym made) in
    let items = rw (ap (λ r. r.at.offset) c.answer.view_is, same) at c.in_ok-push_exchanged.ensures.appended in
    let after : Transfer → List Placed = λ t. t.decided.placed ++ here_at rr t.messages offset ∷ [] in
    let mid = record old { decided = record old.decided { placed = c.push_exchanged.new.self } } in
    elim c.if-is_none.branch [
      | then-is_none+in_ok-open w ↦
          let is = w.self-is ∙ w.open.ensures.others in
          record {
            rr = rr;
            states = states;
            stands = stands;
            gains = opening_gains questions placed rr offset old mid _ among w.if-is_none.ensures refl (items ∙ ap after is) (ap (λ (t : Transfer). t.opening) w.self-is ∙ w.in_ok-open.ensures.opening) (ap (λ (t : Transfer). zone_held t.zone) w.self-is ∙ w.open.ensures.zone) (rw is refl);
          }
      | else-is_none+else-is_soa w ↦
          let other : rr.kind ≡ 6 → ⊥ = λ soa. (let yes = w.is_soa.ensures.1 soa in let no = w.if-is_soa.false in let none : ⊥ = cc in none) in
          record {
            rr = rr;
            states = states;
            stands = stands;
            gains = other_gains questions placed rr offset old _ among w.if-is_none.ensures other (rw w.self-is refl) (items ∙ ap after w.self-is);
          }
    ]
