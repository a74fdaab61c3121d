use Rattle.type_data.proofs.Common.{arith, get_or, refl, ◌*◌, ◌+◌}
use Rattle.type_data.proofs.Printed.PassedNone.{none_passed}
use Rattle.type_data.proofs.OfKinds.Types.Printed.{no_kind_in_window, octet_in_window, octet_of_none, then_between, window_printed}
use Rattle.type_data.specs.Kinds.Bitmap.Machine.{IsInWindow}
use Rattle.type_data.proofs.kinds.types.print_window.Goals as goal
use Rattle.type_data.proofs.kinds.types.print_window.Goals.{then-octet-ne0+in_ok-print_octet, else-octet-ne0}

pub returns-in_err-print_octet-clause-none : goal.returns-in_err-print_octet-clause-none
returns-in_err-print_octet-clause-none c =
    none_passed c.from_residual.result c.in_err-print_octet.field-0.0 _ _ c.from_residual.ensures.1 (no_kind_in_window c.args.number (c.from-first.result * 256 + c.loop-index.index * 8) c.loop-index.index (get_or c.args.bits.now c.loop-index.index 0) c.args.bits.now (omega arith) (omega arith) refl) c.in_err-print_octet.ensures.none

pub loop-index-preserved : goal.loop-index-preserved
loop-index-preserved c =
    then_between (IsInWindow c.args.number c.args.bits.now) (c.args.number * 256) (c.args.number * 256 + c.loop-index.index * 8) _ c.args.out.now.items c.loop-index.out.items _ (omega arith) (omega arith) c.loop-index.invariant (elim c.if-octet-ne0.branch [
      | then-octet-ne0+in_ok-print_octet w ↦ rw w.out-is (octet_in_window c.args.number (c.from-first.result * 256 + c.loop-index.index * 8) c.loop-index.index (get_or c.args.bits.now c.loop-index.index 0) c.args.bits.now _ _ (omega arith) (omega arith) refl w.in_ok-print_octet.ensures.printed)
      | else-octet-ne0 w ↦ rw w.out-is (octet_of_none c.args.number c.loop-index.index c.args.bits.now c.loop-index.out.items (omega arith) w.if-octet-ne0.false)
    ])

pub returns-clause-printed : goal.returns-clause-printed
returns-clause-printed c = window_printed c.args.number c.loop-index.index c.args.bits.now c.args.out.now.items c.loop-index.out.items (omega arith) (omega arith) c.loop-index.invariant
