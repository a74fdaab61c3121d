use Rattle.type_data.proofs.Common.{arith, nat_tests}
use Rattle.type_data.proofs.Printed.PassedNone.{none_passed}
use Rattle.type_data.proofs.PrintedFields.{perhaps_unprinted, some_octets}
use Rattle.type_data.proofs.printed_field.print_perhaps_string.Goals as goal

pub returns-in_err-rest-clause-none : goal.returns-in_err-rest-clause-none
returns-in_err-rest-clause-none c =
    none_passed c.from_residual.result c.in_err-rest.field-0.0 _ _ c.from_residual.ensures.1
    (perhaps_unprinted c.args.octets.now (some_octets c.args.octets.now (grind (arith, nat_tests, c.is_empty.ensures, c.if-is_empty.false))))
    c.in_err-rest.ensures.none
