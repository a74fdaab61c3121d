use Rattle.type_data.proofs.Common.{arith, nat_tests}
use Rattle.type_data.proofs.Printed.PassedNone.{none_passed}
use Rattle.type_data.proofs.OfKinds.Strings.Printed.{bad_strings, no_strings, one_more_printed}
use Rattle.type_data.proofs.kinds.strings.print_strings.Goals as goal

pub returns-then-is_empty-clause-none : goal.returns-then-is_empty-clause-none
returns-then-is_empty-clause-none c = no_strings c.args.octets.now (grind (arith, nat_tests, c.is_empty.ensures, c.if-is_empty.true))

pub returns-in_err-rest-clause-none : goal.returns-in_err-rest-clause-none
returns-in_err-rest-clause-none c =
    none_passed c.from_residual-in_err-rest.result c.in_err-rest.field-0.0 _ _ c.from_residual-in_err-rest.ensures.1
    (bad_strings c.args.octets.now c.loop-rest.rest.now c.args.out.now.items c.loop-rest.out.items (grind (arith, nat_tests, c.is_empty-in-loop-rest.ensures, c.loop-rest-test.true)) c.loop-rest.invariant)
    c.in_err-rest.ensures.none

pub loop-rest-preserved : goal.loop-rest-preserved
loop-rest-preserved c = one_more_printed c.args.octets.now c.loop-rest.rest.now c.in_ok-rest.rest.now c.args.out.now.items c.loop-rest.out.items c.extend_from_slice.new.self.items c.print_string.new.out.items c.loop-rest.invariant c.in_ok-extend_from_slice.ensures.items c.in_ok-rest.ensures.printed
