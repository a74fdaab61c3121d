use Rattle.std.proofs.Common.{arith, refl, take}
use Rattle.std.proofs.lemmas.List.{length-take}
use Rattle.zone_name.proofs.InOctets.LookedUp.{low_places}
use Rattle.zone_text.proofs.Scanning.StopMarks.{found_bits_are}
use Rattle.zone_files.specs.Machine.Lines.{is_mark}
use Rattle.zone_files.specs.declared.expansion.lines.TheConstants.{BY_LOW_BITS}
use Rattle.zone_files.proofs.expansion.lines.mark_bits.Goals as goal

pub swizzle-alike : goal.swizzle-alike
swizzle-alike c = low_places 4 64 (take 64 c.args.octets.now) refl (omega (arith, c.requires, length-take 64 c.args.octets.now))

pub returns : goal.returns
returns c = found_bits_are is_mark c.args.octets.now BY_LOW_BITS (take 16 BY_LOW_BITS) _ _ c.requires c.type_inv.octets refl refl refl refl
