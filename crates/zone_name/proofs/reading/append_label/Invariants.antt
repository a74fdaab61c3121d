use Rattle.zone_name.proofs.Common.{◌≡◌, ◌++◌, take, map, lettered_octet}
use Rattle.zone_name.proofs.reading.append_label.Given as goal

abbrev pub invariant-loop-octet : goal.invariant-loop-octet
invariant-loop-octet l = l.octets.items ≡ l.initial.octets.items ++ map (lettered_octet l.letters) (take l.octet-index l.label)
