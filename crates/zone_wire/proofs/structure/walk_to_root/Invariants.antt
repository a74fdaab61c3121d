use Rattle.zone_wire.proofs.Common.{List, spot_of, ℕ, ◌-◌}
use Rattle.zone_wire.proofs.Names.Walking.{Carries}
use Rattle.zone_wire.proofs.structure.walk_to_root.Given as goal

abbrev pub invariant-places : goal.invariant-places
invariant-places l = (labels : List (List ℕ)) × Carries l.message l.fn.offset (spot_of l.spot) labels l.end l.ticks

abbrev pub decreases-places : goal.decreases-places
decreases-places l = 400 - l.spot.octets - l.spot.pointers
