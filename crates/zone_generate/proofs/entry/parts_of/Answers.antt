use Rattle.std.proofs.Common.{refl}
use Rattle.zone_generate.proofs.EntryItems.{states_none, states_some, type_behind}
use Rattle.zone_generate.proofs.entry.parts_of.Goals as goal

pub returns-then-data-ne1-clause-none : goal.returns-then-data-ne1-clause-none
returns-then-data-ne1-clause-none c =
    states_none c.args.items.now c.in_ok-range.rest.now c.in_ok-owner.rest.now c.record_parts.result.rest.now c.in_ok-kind.data.now _ _ _ c.in_ok-range.ensures.found c.in_ok-owner.ensures.found c.record_parts.ensures.rest c.in_ok-kind.ensures.found c.if-data-ne1.true

pub slice_bounds-result-count : goal.slice_bounds-result-count
slice_bounds-result-count c = type_behind c.in_ok-owner.rest.now c.record_parts.result.rest.now c.record_parts.ensures.rest

pub returns-clause-some : goal.returns-clause-some
returns-clause-some c =
    states_some c.args.items.now c.in_ok-range.rest.now c.in_ok-owner.rest.now c.record_parts.result.rest.now c.in_ok-kind.data.now _ _ _ _ _ _ c.in_ok-range.ensures.found c.in_ok-owner.ensures.found c.record_parts.ensures.rest c.in_ok-kind.ensures.found c.if-data-ne1.false refl refl
