-- The zone has the serial that is read, and no other.
use Rattle.std.proofs.Common.{sym, ◌∙◌}
use Rattle.zone_digest.proofs.verdict.has_serial.Goals as goal

pub returns : goal.returns
returns c =
    let told = c.serial_of.ensures c.args.octets.now in
    let same = c.as_slice.ensures ∙ c.to_be_bytes.ensures in
    (λ is. told.1 (c.are_same.ensures.0 is ∙ same), λ serial. c.are_same.ensures.1 (told.0 serial ∙ sym same))
