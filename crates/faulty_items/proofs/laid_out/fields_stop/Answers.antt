use Rattle.faulty_items.proofs.Common.{arith, refl, sym, ◌+◌, ◌∙◌}
use Rattle.zone_rdata.specs.Layout.{fields_of}
use Rattle.faulty_items.specs.FieldNames.{field_name}
use Rattle.faulty_items.proofs.CanGoOn.{within_got}
use Rattle.faulty_items.proofs.Reading.{laid_ended, laid_more, laid_parts, laid_required, laid_stops}
use Rattle.faulty_items.proofs.laid_out.fields_stop.Goals as goal

pub judge-requires : goal.judge-requires
judge-requires c =
    laid_required c.in-Some.field c.args.items.now _ c.loop-field.taken (c.loop-field.taken + c.own_count.result)
    (laid_parts c.in-Some.field c.args.items.now _ c.loop-field.taken c.own_count.result (c.loop-field.taken + c.own_count.result) c.own_count.ensures.own c.own_count.ensures.after refl refl)

pub overflow_add-place : goal.overflow_add-place
overflow_add-place c =
    let less = within_got (fields_of c.args.layout) c.loop-field.place c.in-Some.field (sym c.field.ensures ∙ c.in-Some.is) in
    let few = c.requires.few in
    omega arith

pub loop-field-smaller : goal.loop-field-smaller
loop-field-smaller c =
    let less = within_got (fields_of c.args.layout) c.loop-field.place c.in-Some.field (sym c.field.ensures ∙ c.in-Some.is) in
    omega arith

pub loop-field-preserved : goal.loop-field-preserved
loop-field-preserved c = (
  c.field_name-name.utf8,
  (let few = c.own_count.ensures.within in let inside = c.loop-field.invariant.1 in omega arith),
  laid_more c.args.origin.now (field_name c.args.kind) (fields_of c.args.layout) c.args.items.now _ c.loop-field.place c.loop-field.taken (c.loop-field.taken + c.own_count.result) _ _ _ c.in-Some.field (sym c.in-Some.is ∙ c.field.ensures)
      (laid_parts c.in-Some.field c.args.items.now _ c.loop-field.taken c.own_count.result (c.loop-field.taken + c.own_count.result) c.own_count.ensures.own c.own_count.ensures.after refl refl)
      c.field_name-name.ensures (rw c.in-Spell.is at c.in_ok-judge.ensures) c.loop-field.invariant.2,
)

pub returns-in-Stop : goal.returns-in-Stop
returns-in-Stop c =
    laid_stops c.args.origin.now (field_name c.args.kind) (fields_of c.args.layout) c.args.items.now _ c.loop-field.place c.loop-field.taken (c.loop-field.taken + c.own_count.result) _ _ _ c.in-Some.field _ (sym c.in-Some.is ∙ c.field.ensures)
    (laid_parts c.in-Some.field c.args.items.now _ c.loop-field.taken c.own_count.result (c.loop-field.taken + c.own_count.result) c.own_count.ensures.own c.own_count.ensures.after refl refl)
    c.field_name-name.ensures (rw c.in-Stop.is at c.in_ok-judge.ensures) c.loop-field.invariant.2

pub returns : goal.returns
returns c =
    laid_ended c.args.origin.now (field_name c.args.kind) (fields_of c.args.layout) c.args.items.now _ c.loop-field.place c.loop-field.taken _ _ _ (sym c.field.ensures ∙ c.in_default.is) refl (c.stop_after.ensures c.args.origin.now (field_name c.args.kind) c.loop-field.place) c.loop-field.invariant.2
