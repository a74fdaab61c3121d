use Rattle.std.proofs.Common.{arith, append_assoc, subst}
use Rattle.zone_digest.proofs.emit.add_with.Goals as goal

pub returns : goal.returns
returns g c m held =
    let one = c.update.ensures m held in
    let two = c.update-2.ensures _ one in
    let three = c.update-3.ensures _ two in
    subst (g.D.Digest.holds c.update-3.new.self) (grind (arith, append_assoc, c.head_of-head.ensures, c.wire.ensures.octets)) three
