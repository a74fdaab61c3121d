use Rattle.zone_rdata.proofs.Common.{map, raw, IsFaultFor, subst, AreOctets}
use Rattle.zone_rdata.proofs.Items.Forms.{stated_data, states_for, memory_left}
use Rattle.zone_rdata.proofs.rdata.Rdata.set_from_items.Goals as goal

pub invariant_of-self : goal.invariant_of-self
invariant_of-self c = record {
  class = c.layout_of.ensures.class;
  kind = c.layout_of.ensures.kind;
  octets = stated_data _ _ _ _ _ _ c.layout_of.ensures.fields c.in-Ok.ensures.found (subst AreOctets c.deref.ensures.value c.are_octets.ensures.each);
}

pub returns-in-Ok-clause-only : goal.returns-in-Ok-clause-only
returns-in-Ok-clause-only c = λ octets stated. (c.data_is_unique.ensures _ _ _ _ _ _ (states_for _ _ _ _ _ _ c.layout_of.ensures.fields c.in-Ok.ensures.found) stated, tt)

pub returns-in-Err-clause-only : goal.returns-in-Err-clause-only
returns-in-Err-clause-only c = λ octets stated. (tt, memory_left c.in-Err.failing _ c.in-Err.ensures.fault (λ fault bad. c.faulty_items_state_none.ensures _ _ _ _ octets fault stated (record { first = subst (λ l. IsFaultFor c.args.origin.now l (map raw c.args.items.now) fault) c.layout_of.ensures.fields bad })))
