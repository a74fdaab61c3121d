use Rattle.zone_name.proofs.Common.{folded_octet, ◌-◌}
use Rattle.zone_name.proofs.InOctets.OctetLanes.{Mapped}
use Rattle.zone_name.proofs.reading.fold_front.Given as goal

abbrev pub invariant-loop-at : goal.invariant-loop-at
invariant-loop-at l = Mapped folded_octet l.fn.octets l.octets l.at

abbrev pub decreases-loop-at : goal.decreases-loop-at
decreases-loop-at l = l.len - l.at
