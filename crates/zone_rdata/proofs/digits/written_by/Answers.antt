use Rattle.std.proofs.Common.{arith, length-take, refl, take}
use Rattle.zone_name.proofs.InOctets.LookedUp.{low_places}
use Rattle.zone_rdata.proofs.Texts.DigitLanes.{digits_woven, repeats_twice, splat_long}
use Rattle.zone_rdata.proofs.digits.written_by.Goals as goal

pub swizzle-high : goal.swizzle-high
swizzle-high c = low_places 2 32 _ refl (splat_long _ 32 4 (take 32 c.args.octets.now) (omega (arith, c.requires, length-take 32 c.args.octets.now)))

pub swizzle-low : goal.swizzle-low
swizzle-low c = low_places 2 32 (take 32 c.args.octets.now) refl (omega (arith, c.requires, length-take 32 c.args.octets.now))

pub returns : goal.returns
returns c = λ digits long twice. digits_woven 32 c.args.table digits c.args.octets.now c.requires c.type_inv.octets (repeats_twice c.args.table digits long twice)
