use Rattle.type_data.proofs.Common.{◌*◌, ◌+◌}
use Rattle.type_data.specs.Kinds.Types.Machine.{PrintsBetween}
use Rattle.type_data.specs.Kinds.Bitmap.Machine.{IsInWindow}
use Rattle.type_data.proofs.kinds.types.print_window.Given as goal

abbrev pub invariant-loop-index : goal.invariant-loop-index
invariant-loop-index l = PrintsBetween (IsInWindow l.number l.bits) (l.number * 256) (l.number * 256 + l.index * 8) l.fn.out.items l.out.items
