use Rattle.zone_name.proofs.Common.{arith, folded_octet}
use Rattle.zone_name.proofs.InOctets.OctetLanes.{mapped_more}
use Rattle.zone_name.proofs.reading.fold_front.Goals as goal

pub loop-at-preserved : goal.loop-at-preserved
loop-at-preserved c =
    mapped_more folded_octet c.args.octets.now c.loop-at.octets c.fold_lanes.new.octets c.loop-at.at 16 c.loop-at.invariant
    (omega (arith, c.requires, c.loop-at-test.true, c.loop-at.invariant.same)) c.fold_lanes.ensures
