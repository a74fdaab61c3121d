use Rattle.std.proofs.Common.{length, ◌≡◌}
use Rattle.std.specs.List.{AllByRecursion}
use Rattle.zone_rdata.specs.Lent.{record_of}
use Rattle.zone_rdata.specs.Record.{Record}
use Rattle.zone_set.specs.Order.{Ascends}
use Rattle.zone_difference.specs.Folded.{IsGathering}
use Rattle.zone_difference.specs.Walk.{with_taken}
use Rattle.zone_difference.proofs.folded_sets.gather.Given as goal

-- the keys of the records that were passed
abbrev pub invariant-walk : goal.invariant-walk
invariant-walk l = record {
  gathering : IsGathering (with_taken l.initial.next l.initial.rest) (with_taken l.next l.rest) (record_of l.rr) l.head l.keys.keys;
  up : Ascends (with_taken l.next l.rest);
}

abbrev pub decreases-walk : goal.decreases-walk
decreases-walk l = length (with_taken l.next l.rest)
