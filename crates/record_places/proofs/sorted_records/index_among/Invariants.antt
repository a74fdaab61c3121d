use Rattle.std.proofs.Common.{◌-◌, ◌≤◌, length}
use Rattle.zone_rdata.specs.Lent.{record_of}
use Rattle.record_places.specs.Machine.SoFar.{records_in}
use Rattle.record_places.proofs.Sought.{IsBetween}
use Rattle.record_places.proofs.sorted_records.index_among.Given as goal

-- the record is none of those before the one index or from the other on
abbrev pub invariant-halves : goal.invariant-halves
invariant-halves l = record {
  between : IsBetween (records_in l.records) (record_of l.rr) l.low l.high;
  low : l.low ≤ l.high;
  high : l.high ≤ length l.records;
}

abbrev pub decreases-halves : goal.decreases-halves
decreases-halves l = l.high - l.low
