use Rattle.zone_wire.proofs.Common.{spot_of, ◌-◌}
use Rattle.zone_wire.proofs.Names.RunLaws.{Gathers}
use Rattle.zone_wire.proofs.name.read_name.Given as goal

abbrev pub invariant-places : goal.invariant-places
invariant-places l = Gathers l.message l.fn.offset (spot_of l.spot) l.labels l.end l.ticks

abbrev pub decreases-places : goal.decreases-places
decreases-places l = 400 - l.spot.octets - l.spot.pointers
