use Rattle.type_data.proofs.Common.{Some, [], ap, arith, false, nat_tests, option_map, subst, sym, ◌∙◌}
use Rattle.type_data.specs.Parameters.Machine.Parts.{items_of}
use Rattle.type_data.proofs.OfParameters.Protocols.{HasItem, empty_parts, item_full, item_more, item_parts, map_first, prefixed}
use Rattle.type_data.proofs.parameters.protocols.first_item.Goals as goal

pub returns-then-is_full-clause-none : goal.returns-then-is_full-clause-none
returns-then-is_full-clause-none c = item_full c.args.text.now c.loop-octet.rest.now c.in-Octet.after.now c.loop-octet.item.items c.in-Octet.octet c.loop-octet.invariant c.in-Octet.ensures (grind (arith, nat_tests, c.is_full.ensures, c.if-is_full.true))

pub loop-octet-preserved : goal.loop-octet-preserved
loop-octet-preserved c = subst (HasItem c.args.text.now c.in-Octet.after.now) (sym c.push.ensures.items) (item_more c.args.text.now c.loop-octet.rest.now c.in-Octet.after.now c.loop-octet.item.items c.in-Octet.octet c.loop-octet.invariant c.in-Octet.ensures (grind (arith, nat_tests, c.is_full.ensures, c.if-is_full.false, c.loop-octet.invariant.short)))

pub returns-in-End-clause-found : goal.returns-in-End-clause-found
returns-in-End-clause-found c = ((grind (arith, nat_tests, c.is_empty.ensures, c.if-is_empty.false), c.loop-octet.invariant.short), c.loop-octet.invariant.items ∙ ap (λ t. option_map (prefixed c.loop-octet.item.items) (items_of false t)) c.in-End.ensures ∙ map_first c.loop-octet.item.items (Some []))

pub returns-then-is_empty-2-clause-none : goal.returns-then-is_empty-2-clause-none
returns-then-is_empty-2-clause-none c = empty_parts c.args.text.now c.loop-octet.rest.now c.in-Comma.after.now c.loop-octet.item.items c.loop-octet.invariant c.in-Comma.ensures (grind (arith, nat_tests, c.is_empty-in-Comma.ensures, c.if-is_empty-2.true))

pub returns-in-Comma-clause-found : goal.returns-in-Comma-clause-found
returns-in-Comma-clause-found c = item_parts c.args.text.now c.loop-octet.rest.now c.in-Comma.after.now c.loop-octet.item.items c.loop-octet.invariant c.in-Comma.ensures (grind (arith, nat_tests, c.is_empty-in-Comma.ensures, c.if-is_empty-2.false))
