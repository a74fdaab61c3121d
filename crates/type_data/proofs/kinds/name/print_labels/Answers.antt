use Rattle.type_data.proofs.Common.{arith, nat_tests}
use Rattle.type_data.proofs.OfKinds.Name.Printed.{label_more, long_name, no_name}
use Rattle.type_data.proofs.Printed.PassedNone.{none_passed}
use Rattle.type_data.proofs.kinds.name.print_labels.Goals as goal

pub returns-in_err-label-clause-none : goal.returns-in_err-label-clause-none
returns-in_err-label-clause-none c =
    none_passed c.from_residual.result c.in_err-label.field-0.0 _ _ c.from_residual.ensures.1 (no_name c.args.octets.now c.loop-label.rest.now c.args.out.now.items c.loop-label.out.items c.loop-label.invariant) c.in_err-label.ensures.none

pub loop-label-preserved : goal.loop-label-preserved
loop-label-preserved c =
    label_more c.args.octets.now c.loop-label.rest.now c.in_ok-label.after.now c.in_ok-label.label.now c.args.out.now.items c.loop-label.out.items c.push_label.new.out.items (λ i. omega (arith, c.type_inv.octets i)) c.loop-label.invariant c.in_ok-label.ensures.whole (grind (arith, nat_tests, c.is_empty.ensures, c.if-is_empty.false)) c.in_ok-label.ensures.short c.in_ok-push_label.ensures.ok

pub returns-then-octets-rest-gt-LONGEST_NAME-clause-none : goal.returns-then-octets-rest-gt-LONGEST_NAME-clause-none
returns-then-octets-rest-gt-LONGEST_NAME-clause-none c =
    long_name c.args.octets.now c.loop-label.rest.now c.in_ok-label.after.now c.in_ok-label.label.now c.args.out.now.items c.loop-label.out.items c.loop-label.invariant c.in_ok-label.ensures.whole (grind (arith, nat_tests, c.is_empty.ensures, c.if-is_empty.true)) (omega (arith, c.if-octets-rest-gt-LONGEST_NAME.true))
