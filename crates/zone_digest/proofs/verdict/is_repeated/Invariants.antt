-- None of those that were looked at is like it.
use Rattle.std.proofs.Common.{map, take}
use Rattle.zone_rdata.specs.Lent.{record_of}
use Rattle.zone_digest.specs.Machine.Reading.{HasOtherLike, fields_of}
use Rattle.zone_digest.proofs.verdict.is_repeated.Given as goal

abbrev pub invariant-loop-other : goal.invariant-loop-other
invariant-loop-other l = HasOtherLike (map record_of (take l.other-index l.found)) (record_of l.rr) (fields_of l.fields) → ⊥
