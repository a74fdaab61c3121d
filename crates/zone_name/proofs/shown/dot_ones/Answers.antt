use Rattle.zone_name.proofs.Common.{arith}
use Rattle.zone_name.proofs.InOctets.Evens.{evens_more}
use Rattle.zone_name.proofs.shown.dot_ones.Goals as goal

pub loop-octets-preserved : goal.loop-octets-preserved
loop-octets-preserved c = (
  evens_more c.args.octets.now c.loop-octets.octets c.turn_evens.new.octets c.loop-octets.at 1 46 c.loop-octets.invariant.0 (c.turn_evens.ensures.turned c.if-turn_evens.true) c.loop-octets.invariant.1,
  omega (arith, c.if-octets-at.true, c.turn_evens.auto.octets),
)
