use Rattle.zone_name.proofs.Common.{ap, arith, length, length-set, refl, ◌+◌, ◌<◌, ◌∙◌, ◌≡◌}
use Rattle.zone_name.proofs.Spelling.Plain.{one_written}
use Rattle.zone_name.proofs.reading.write_ones.Goals as goal

pub loop-at-preserved : goal.loop-at-preserved
loop-at-preserved c =
    let at = c.loop-at.at in
    let octets = c.write_eight.new.octets in
    let inv = c.loop-at.invariant in
    let same = c.write_eight.ensures.left c.if-write_eight.false in
    let as_many : length octets ≡ length c.args.octets.now = ap length same ∙ inv.1 in
    let inside : at + 1 < length octets = omega (arith, c.loop-at-test.true, c.requires, as_many) in (
      one_written c.args.octets.now octets _ at (rw same inv.0) inside (c.is_one.ensures.dot c.if-is_one.true) (c.is_one.ensures.plain c.if-is_one.true) refl,
      length-set octets at 1 ∙ as_many,
      omega (arith, inside, length-set octets at 1),
    )
