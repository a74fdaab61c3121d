use Rattle.type_data.proofs.Common.{take}
use Rattle.type_data.proofs.OfKinds.Bitmap.Bits.{AreBitsOf}
use Rattle.type_data.proofs.kinds.bitmap.window_bits.Given as goal

abbrev pub invariant-loop-number : goal.invariant-loop-number
invariant-loop-number l = AreBitsOf (take l.number-index l.types) l.bits
