use Rattle.type_data.proofs.Common.{length}
use Rattle.type_data.proofs.OfKinds.Bitmap.Bits.{HavePushed}
use Rattle.type_data.proofs.kinds.bitmap.push_windows.Given as goal

abbrev pub invariant-loop-first : goal.invariant-loop-first
invariant-loop-first l = HavePushed l.types l.rest l.fn.out.items l.out.items

abbrev pub decreases-loop-first : goal.decreases-loop-first
decreases-loop-first l = length l.rest
