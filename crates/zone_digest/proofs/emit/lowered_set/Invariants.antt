use Rattle.std.proofs.Common.{List, ℕ, map, take, ◌↔◌}
use Rattle.zone_rdata.specs.Lent.{record_of}
use Rattle.zone_digest.specs.Machine.Sets.{HasOctets, HasLowered}
use Rattle.zone_digest.proofs.emit.lowered_set.Given as goal

abbrev pub invariant-loop-rr : goal.invariant-loop-rr
invariant-loop-rr l = (octets : List ℕ) → HasOctets l.lowered.keys octets ↔ HasLowered (map record_of (take l.rr-index l.set)) octets
