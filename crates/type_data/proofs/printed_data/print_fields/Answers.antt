use Rattle.type_data.proofs.Common.{arith, map, nat_tests, refl}
use Rattle.type_data.proofs.Printed.PassedNone.{none_passed}
use Rattle.type_data.proofs.PrintedInRow.{all_places, fields_printed, none_printed_yet, octets_left, place_printed, place_unprinted}
use Rattle.type_data.proofs.printed_data.print_fields.Goals as goal
use Rattle.type_data.specs.Table.{field_of}

pub loop-field-init : goal.loop-field-init
loop-field-init c = none_printed_yet (map field_of c.args.fields.now) c.args.octets.now c.args.out.now.items

pub returns-in_err-rest-clause-none : goal.returns-in_err-rest-clause-none
returns-in_err-rest-clause-none c =
    none_passed c.from_residual.result c.in_err-rest.field-0.0 _ _ c.from_residual.ensures.1
    (place_unprinted c.args.fields.now c.loop-field.field-index _ _ c.args.octets.now c.loop-field.rest.now c.args.out.now.items c.loop-field.out.items c.loop-field-test.true refl c.loop-field.invariant)
    c.in_err-rest.ensures.none

pub loop-field-preserved : goal.loop-field-preserved
loop-field-preserved c = place_printed c.args.fields.now c.loop-field.field-index _ _ c.args.octets.now c.loop-field.rest.now c.in_ok-rest.rest.now c.args.out.now.items c.loop-field.out.items c.print.new.out.items c.loop-field-test.true refl c.loop-field.invariant c.in_ok-rest.ensures.printed

pub returns-then-is_empty-clause-printed : goal.returns-then-is_empty-clause-printed
returns-then-is_empty-clause-printed c =
    fields_printed (map field_of c.args.fields.now) c.args.octets.now c.loop-field.rest.now c.args.out.now.items c.loop-field.out.items
    (all_places c.args.fields.now c.loop-field.field-index c.args.octets.now c.loop-field.rest.now c.args.out.now.items c.loop-field.out.items c.loop-field-test.false c.loop-field.invariant)
    (grind (arith, nat_tests, c.is_empty.ensures, c.if-is_empty.true))

pub returns-else-is_empty-clause-none : goal.returns-else-is_empty-clause-none
returns-else-is_empty-clause-none c =
    octets_left (map field_of c.args.fields.now) c.args.octets.now c.loop-field.rest.now c.args.out.now.items c.loop-field.out.items
    (all_places c.args.fields.now c.loop-field.field-index c.args.octets.now c.loop-field.rest.now c.args.out.now.items c.loop-field.out.items c.loop-field-test.false c.loop-field.invariant)
    (grind (arith, nat_tests, c.is_empty.ensures, c.if-is_empty.false))
