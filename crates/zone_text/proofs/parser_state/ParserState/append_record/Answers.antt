use Rattle.zone_rdata.proofs.Failings.{IfFault-weaker}
use Rattle.zone_text.proofs.Common.{Head, IsLastOwner, IsOneOrNone, arith, err_from_is_err_and, map, raw, refl, subst, sym, ◌∷◌}
use Rattle.zone_rdata.specs.Record.{record_with}
use Rattle.zone_text.proofs.Entries.RecordsRead.{long_ttl, no_owner, no_ttl, one_owner, rdata_refused, read_to, record_left, states_record}
use Rattle.zone_text.proofs.parser_state.ParserState.append_record.Goals as goal

pub returns-in_default-clause-fault : goal.returns-in_default-clause-fault
returns-in_default-clause-fault c origin before entry has =
    rw c.of.ensures (no_owner origin before entry c.args.self.now _ has c.in_default.is)

pub returns-in-Err-clause-fault : goal.returns-in-Err-clause-fault
returns-in-Err-clause-fault c origin before entry has =
    let one = one_owner origin before entry c.args.self.now _ _ has c.in-Some.is in
    rw c.of-in-Err.ensures (c.in-Err.ensures.fault origin before entry _ one.0)

pub returns-in_err-set_from_items-clause-fault : goal.returns-in_err-set_from_items-clause-fault
returns-in_err-set_from_items-clause-fault c origin before entry has =
    let p = err_from_is_err_and c.from_residual.result c.from_residual.ensures.1 in
    let one = one_owner origin before entry c.args.self.now _ _ has c.in-Some.is in
    let head = c.in-Ok.ensures.found origin before entry _ one.0 in
    rw (p.1, p.2) (IfFault-weaker _ _ _ (λ fault bad. rdata_refused origin before entry c.args.self.now _ _ _ fault one.0 head.0 bad) c.in_err-set_from_items.ensures.fault)

pub returns-in_default-or-clause-fault : goal.returns-in_default-or-clause-fault
returns-in_default-or-clause-fault c origin before entry has =
    let one = one_owner origin before entry c.args.self.now _ _ has c.in-Some.is in
    rw c.of-in_default-or.ensures
    (no_ttl c.lower_laws.ensures origin before entry c.args.self.now _ _ _ _
    (read_to origin before entry c.args.self.now c.in-Some.owner _ _ _ c.set_from_items.new.self _ _ _ _ _ _ one.0 (c.in-Ok.ensures.found origin before entry _ one.0) c.in_ok-set_from_items.ensures.class c.in_ok-set_from_items.ensures.kind c.in_ok-set_from_items.ensures.found c.or.ensures c.or-stated.ensures c.soa_minimum.ensures c.or-minimum.ensures c.or-2.ensures c.in_default-or.is))

pub returns-then-ttl-gt-MAX_TTL-clause-fault : goal.returns-then-ttl-gt-MAX_TTL-clause-fault
returns-then-ttl-gt-MAX_TTL-clause-fault c origin before entry has =
    let one = one_owner origin before entry c.args.self.now _ _ has c.in-Some.is in
    rw c.of-then-ttl-gt-MAX_TTL.ensures
    (long_ttl c.lower_laws.ensures origin before entry c.args.self.now _ _ _ _ _
    (read_to origin before entry c.args.self.now c.in-Some.owner _ _ _ c.set_from_items.new.self _ _ _ _ _ _ one.0 (c.in-Ok.ensures.found origin before entry _ one.0) c.in_ok-set_from_items.ensures.class c.in_ok-set_from_items.ensures.kind c.in_ok-set_from_items.ensures.found c.or.ensures c.or-stated.ensures c.soa_minimum.ensures c.or-minimum.ensures c.or-2.ensures c.in-Some-or.is)
    (omega (arith, c.if-ttl-gt-MAX_TTL.true)))

pub returns-clause-found : goal.returns-clause-found
returns-clause-found c origin before entry has =
    let one = one_owner origin before entry c.args.self.now _ _ has c.in-Some.is in
    let head : Head = record { owner = c.in-Some.owner; class = c.in-Ok.head.class; kind = c.in-Ok.head.kind; items = map raw c.in-Ok.head.items.now } in
    let rdata = c.set_from_items.new.self in
    let stated = record_with c.lend.result c.in-Some-or.ttl rdata in
    let reads = read_to origin before entry c.args.self.now c.in-Some.owner _ head _ c.set_from_items.new.self _ _ _ _ _ _ one.0 (c.in-Ok.ensures.found origin before entry _ one.0) c.in_ok-set_from_items.ensures.class c.in_ok-set_from_items.ensures.kind c.in_ok-set_from_items.ensures.found c.or.ensures c.or-stated.ensures c.soa_minimum.ensures c.or-minimum.ensures c.or-2.ensures c.in-Some-or.is in
    record {
      stated = stated;
      states = states_record c.lower_laws.ensures origin before entry c.args.self.now head _ _ _ _ stated reads (rw c.lend.ensures.value refl) c.push_exchanged.ensures.record;
      left = record_left c.lower_laws.ensures origin before entry c.args.self.now (record { origin = c.args.self.now.origin; owner = c.args.self.now.owner; class = c.in-Ok.head.class; default_ttl = c.args.self.now.default_ttl; last_ttl = c.or-self.result; minimum = c.or-minimum.result; rdata = c.push_exchanged.new.rdata }) head _ _ _ _ c.args.self.now.owner reads refl refl refl c.or-self.ensures refl (subst (IsOneOrNone (IsLastOwner origin (entry ∷ before))) (sym c.in-Some.is) one.1);
      appended = c.in_ok-push_exchanged.ensures.appended;
    }
