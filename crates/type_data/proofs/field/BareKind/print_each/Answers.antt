use Rattle.type_data.proofs.Common.{arith, nat_tests}
use Rattle.type_data.proofs.Printed.PassedNone.{none_passed}
use Rattle.type_data.proofs.PrintedEach.{no_more, no_progress, none_printed_yet, one_more}
use Rattle.type_data.proofs.field.BareKind.print_each.Goals as goal

pub loop-rest-init : goal.loop-rest-init
loop-rest-init c = none_printed_yet c.args.self c.args.octets.now c.args.out.now.items

pub returns-in_err-after-clause-none : goal.returns-in_err-after-clause-none
returns-in_err-after-clause-none c =
    none_passed c.from_residual-in_err-after.result c.in_err-after.field-0.0 _ _ c.from_residual-in_err-after.ensures.1
    (no_more c.args.self c.args.octets.now c.loop-rest.rest.now c.args.out.now.items c.loop-rest.out.items (grind (arith, nat_tests, c.is_empty.ensures, c.loop-rest-test.true)) c.loop-rest.invariant)
    c.in_err-after.ensures.none

pub loop-rest-preserved : goal.loop-rest-preserved
loop-rest-preserved c = one_more c.args.self c.args.octets.now c.loop-rest.rest.now c.in_ok-after.after.now c.args.out.now.items c.loop-rest.out.items c.push.new.self.items c.print.new.out.items (grind (arith, nat_tests, c.is_empty.ensures, c.loop-rest-test.true)) c.loop-rest.invariant c.in_ok-push.ensures.items c.in_ok-after.ensures.printed

pub returns-then-after-rest-clause-none : goal.returns-then-after-rest-clause-none
returns-then-after-rest-clause-none c =
    no_progress c.args.self c.args.octets.now c.loop-rest.rest.now c.in_ok-after.after.now c.args.out.now.items c.loop-rest.out.items c.push.new.self.items c.print.new.out.items
    (grind (arith, nat_tests, c.is_empty.ensures, c.loop-rest-test.true)) (grind (arith, nat_tests, c.if-after-rest.true)) c.loop-rest.invariant c.in_ok-after.ensures.printed
