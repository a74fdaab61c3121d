use Rattle.type_data.proofs.Common.{arith, nat_tests}
use Rattle.type_data.proofs.Printed.PassedNone.{none_passed}
use Rattle.type_data.proofs.OfKinds.Prefixes.Printed.{all_prefixes_printed, bad_prefixes, one_more_prefix}
use Rattle.type_data.proofs.kinds.prefixes.print_prefixes.Goals as goal

pub returns-in_err-rest-clause-none : goal.returns-in_err-rest-clause-none
returns-in_err-rest-clause-none c =
    none_passed c.from_residual-in_err-rest.result c.in_err-rest.field-0.0 _ _ c.from_residual-in_err-rest.ensures.1
    (bad_prefixes c.args.octets.now c.loop-rest.rest.now c.args.out.now.items c.loop-rest.out.items (grind (arith, nat_tests, c.is_empty.ensures, c.loop-rest-test.true)) c.loop-rest.invariant)
    c.in_err-rest.ensures.none

pub loop-rest-preserved : goal.loop-rest-preserved
loop-rest-preserved c = one_more_prefix c.args.octets.now c.loop-rest.rest.now c.in_ok-rest.rest.now c.args.out.now.items c.loop-rest.out.items c.extend_from_slice.new.self.items c.print_prefix.new.out.items c.loop-rest.invariant c.in_ok-extend_from_slice.ensures.items c.in_ok-rest.ensures.printed

pub returns-clause-printed : goal.returns-clause-printed
returns-clause-printed c = all_prefixes_printed c.args.octets.now c.loop-rest.rest.now c.args.out.now.items c.loop-rest.out.items (grind (arith, nat_tests, c.is_empty.ensures, c.loop-rest-test.false)) c.loop-rest.invariant
