use Rattle.type_data.proofs.Common.{[], append-nil, false, refl, sym, ◌∙◌}
use Rattle.type_data.specs.Parameters.Machine.Parts.{items_of}
use Rattle.type_data.proofs.OfParameters.Protocols.{items_more, map_whole, stops_by}
use Rattle.type_data.proofs.parameters.protocols.read_items.Goals as goal

pub loop-item-init : goal.loop-item-init
loop-item-init c = record { done = []; items = map_whole (items_of false c.args.text.now); each = tt; value = sym (append-nil c.args.out.now.items) }

pub returns-in_default-clause-fault : goal.returns-in_default-clause-fault
returns-in_default-clause-fault c = rw c.into.ensures (refl, (λ octets is. stops_by c.loop-item.invariant.done (items_of false c.loop-item.rest.now) is.protocols c.in_default.ensures.none (sym c.loop-item.invariant.items ∙ is.items) is.each))

pub loop-item-preserved : goal.loop-item-preserved
loop-item-preserved c = items_more c.args.text.now c.loop-item.rest.now c.in-Some-after.more.now c.in-Some.item.items c.args.out.now.items c.loop-item.out.items _ c.loop-item.invariant (rw c.in-Some-after.is at c.in-Some.ensures.found) (cc (c.in_ok-extend_from_slice-2.ensures.items, c.in_ok-extend_from_slice.ensures.items, c.as_slice.ensures.value, c.len.ensures.value))
