use Rattle.std.proofs.Common.{map, take}
use Rattle.std.specs.List.{AllByRecursion}
use Rattle.zone_rdata.specs.Lent.{record_of}
use Rattle.zone_digest.specs.Machine.Sets.{StaysLow}
use Rattle.zone_digest.proofs.emit.all_stay.Given as goal

abbrev pub invariant-loop-rr : goal.invariant-loop-rr
invariant-loop-rr l = AllByRecursion StaysLow (map record_of (take l.rr-index l.set))
