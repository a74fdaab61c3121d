use Rattle.zone_name.proofs.Common.{◌≡◌, ◌+◌, length, flat_map, with_length, wire, labels_of}
use Rattle.zone_name.proofs.lent.NameRef.split_front.Given as goal

abbrev pub invariant-loop-label : goal.invariant-loop-label
invariant-loop-label l = l.len + length (flat_map with_length l.label-iterator) ≡ length (wire (labels_of l.octets))
