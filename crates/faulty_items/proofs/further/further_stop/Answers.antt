use Rattle.faulty_items.proofs.Common.{arith, field_of, given, map, refl, ◌+◌}
use Rattle.type_data.specs.Table.{fields_in, of_code}
use Rattle.faulty_items.proofs.Reading.{fault_told, further_answer, further_ended, further_more, further_parts, one_at}
use Rattle.faulty_items.proofs.further.further_stop.Goals as goal

pub returns-in-Err-Fault : goal.returns-in-Err-Fault
returns-in-Err-Fault c =
    let all = fields_in (of_code c.args.fields.now) (map given c.args.items.now) in
    let at = one_at all c.loop-place.place (map field_of c.field_at-field.result.now) (let count = c.count_of-place-end.ensures (map given c.args.items.now) in let less = c.loop-place-test.true in omega arith) c.field_at-field.ensures in
    let told = c.stop_of.ensures at.0 at.1.alone in
    further_answer c.stop_of.result c.args.origin.now all c.args.items.now _ c.loop-place.place c.loop-place.taken (c.loop-place.taken + c.own_count.result) _ _ _ _ at.0 _ at.1
    (further_parts at.0.kind c.args.items.now _ c.loop-place.taken c.own_count.result (c.loop-place.taken + c.own_count.result) (c.own_count.ensures.own at.0 at.1.alone) refl refl)
    (fault_told _ _ c.in-Err-Fault.name c.in-Err-Fault.fault c.in-Err-Fault.field-0-is c.in-Err-Fault.ensures.fault) (rw c.in-Err-Fault.field-0-is at told) c.loop-place.invariant.2

pub loop-place-preserved : goal.loop-place-preserved
loop-place-preserved c =
    let all = fields_in (of_code c.args.fields.now) (map given c.args.items.now) in
    let at = one_at all c.loop-place.place (map field_of c.field_at-field.result.now) (let count = c.count_of-place-end.ensures (map given c.args.items.now) in let less = c.loop-place-test.true in omega arith) c.field_at-field.ensures in (
      c.name_of.utf8,
      (let few = c.own_count.ensures.within in let inside = c.loop-place.invariant.1 in omega arith),
      further_more c.args.origin.now all c.args.items.now _ c.loop-place.place c.loop-place.taken (c.loop-place.taken + c.own_count.result) _ _ _ _ at.0 _ at.1
          (further_parts at.0.kind c.args.items.now _ c.loop-place.taken c.own_count.result (c.loop-place.taken + c.own_count.result) (c.own_count.ensures.own at.0 at.1.alone) refl refl)
          (c.name_of.ensures at.0 at.1.alone) c.in-Ok.ensures.states c.loop-place.invariant.2,
    )

pub returns : goal.returns
returns c =
    let all = fields_in (of_code c.args.fields.now) (map given c.args.items.now) in
    further_ended c.args.origin.now all c.args.items.now _ c.loop-place.place c.loop-place.taken _ _ _ (let count = c.count_of-place-end.ensures (map given c.args.items.now) in let past = c.loop-place-test.false in omega arith) refl (c.stop_after.ensures c.args.origin.now) c.loop-place.invariant.2
