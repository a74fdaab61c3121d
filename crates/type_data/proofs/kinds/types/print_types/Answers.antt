use Rattle.type_data.proofs.Common.{arith, length, nat_tests, nil_from_length, on_ok_weaker, ◌<◌, ◌≡◌}
use Rattle.type_data.proofs.OfKinds.Types.Printed.{none_of_none, types_printed}
use Rattle.type_data.proofs.kinds.types.print_types.Goals as goal

pub returns-then-is_empty-clause-none : goal.returns-then-is_empty-clause-none
returns-then-is_empty-clause-none c =
    let none : length c.args.octets.now ≡ 0 = grind (arith, nat_tests, c.is_empty.ensures, c.if-is_empty.true) in
    none_of_none c.args.octets.now (nil_from_length c.args.octets.now none)

pub returns-clause-printed : goal.returns-clause-printed
returns-clause-printed c =
    let some : 0 < length c.args.octets.now = grind (arith, nat_tests, c.is_empty.ensures, c.if-is_empty.false) in
    on_ok_weaker c.print_perhaps_types.result (types_printed c.args.octets.now c.args.out.now.items c.print_perhaps_types.new.out.items some) c.print_perhaps_types.ensures.printed
