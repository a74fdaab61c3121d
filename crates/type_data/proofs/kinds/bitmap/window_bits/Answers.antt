use Rattle.std.proofs.Common.{rules}
use Rattle.type_data.proofs.Common.{refl}
use Rattle.type_data.proofs.OfKinds.Bitmap.Bits.{more_bits, none_of}
use Rattle.type_data.proofs.kinds.bitmap.window_bits.Goals as goal

pub loop-number-init : goal.loop-number-init
loop-number-init c = none_of _ refl (search rules)

pub loop-number-preserved : goal.loop-number-preserved
loop-number-preserved c = more_bits c.args.types.now c.loop-number.number-index _ c.from.result c.loop-number.bits _ c.loop-number-test.true refl c.loop-number.invariant c.from.ensures refl
