use Rattle.std.proofs.Common.{◌≡◌, ◌↔◌, map, length}
use Rattle.zone_name.specs.Name.{folded_octet}
use Rattle.data_names.proofs.lowering.is_low.Given as goal

abbrev pub invariant-loop-octet : goal.invariant-loop-octet
invariant-loop-octet l = (map folded_octet l.left ≡ l.left) ↔ (map folded_octet l.octets ≡ l.octets)

abbrev pub decreases-loop-octet : goal.decreases-loop-octet
decreases-loop-octet l = length l.left
