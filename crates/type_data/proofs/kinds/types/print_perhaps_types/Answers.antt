use Rattle.type_data.proofs.Common.{arith, length, nat_tests, nil_from_length, subst, ℕ, ◌+◌, ◌<◌, ◌≡◌}
use Rattle.type_data.proofs.Printed.PassedNone.{none_passed}
use Rattle.type_data.proofs.OfKinds.Types.Printed.{HavePrinted, all_printed, low_window, next_printed, no_kind, no_window, none_printed}
use Rattle.type_data.specs.Kinds.Bitmap.Machine.{window_of}
use Rattle.type_data.proofs.kinds.types.print_perhaps_types.Goals as goal

pub loop-rest-init : goal.loop-rest-init
loop-rest-init c = none_printed c.args.octets.now c.args.out.now.items

pub returns-in_err-number-clause-none : goal.returns-in_err-number-clause-none
returns-in_err-number-clause-none c =
    let some : 0 < length c.loop-rest.rest.now = grind (arith, nat_tests, c.is_empty.ensures, c.loop-rest-test.true) in
    none_passed c.from_residual.result c.in_err-number.field-0.0 _ _ c.from_residual.ensures.1 (no_window c.args.octets.now c.loop-rest.rest.now _ _ _ c.loop-rest.invariant some) c.in_err-number.ensures.none

pub returns-then-from-least-clause-none : goal.returns-then-from-least-clause-none
returns-then-from-least-clause-none c = low_window c.args.octets.now c.loop-rest.rest.now c.in_ok-number.after.now _ _ _ (window_of c.in_ok-number.number c.in_ok-number.bits.now) c.loop-rest.invariant c.in_ok-number.ensures.window (omega arith)

pub returns-in_err-print_window-clause-none : goal.returns-in_err-print_window-clause-none
returns-in_err-print_window-clause-none c =
    none_passed c.from_residual-in_err-print_window.result c.in_err-print_window.field-0.0 _ _ c.from_residual-in_err-print_window.ensures.1 (no_kind c.args.octets.now c.loop-rest.rest.now c.in_ok-number.after.now c.in_ok-number.bits.now _ _ _ c.in_ok-number.number _ c.loop-rest.invariant c.in_ok-number.ensures.window) c.in_err-print_window.ensures.none

pub loop-rest-preserved : goal.loop-rest-preserved
loop-rest-preserved c =
    let same : c.in_ok-number.number + 1 ≡ c.from-least.result + 1 = omega arith in
    subst (λ (n : ℕ). HavePrinted c.args.octets.now c.in_ok-number.after.now n c.args.out.now.items c.print_window.new.out.items) same (next_printed c.args.octets.now c.loop-rest.rest.now c.in_ok-number.after.now c.in_ok-number.bits.now c.args.out.now.items c.loop-rest.out.items c.print_window.new.out.items c.loop-rest.least c.in_ok-number.number c.loop-rest.invariant c.in_ok-number.ensures.window (omega arith) c.in_ok-print_window.ensures.printed)

pub returns-clause-printed : goal.returns-clause-printed
returns-clause-printed c =
    let none : length c.loop-rest.rest.now ≡ 0 = grind (arith, nat_tests, c.is_empty.ensures, c.loop-rest-test.false) in
    all_printed c.args.octets.now c.loop-rest.rest.now c.args.out.now.items c.loop-rest.out.items c.loop-rest.least c.loop-rest.invariant (nil_from_length c.loop-rest.rest.now none)
