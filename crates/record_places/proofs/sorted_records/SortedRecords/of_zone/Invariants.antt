use Rattle.std.proofs.Common.{◌≡◌, ◌++◌}
use Rattle.record_places.specs.Machine.SoFar.{records_in}
use Rattle.record_places.proofs.sorted_records.SortedRecords.of_zone.Given as goal

-- those that were taken and those to come
abbrev pub invariant-loop-rr : goal.invariant-loop-rr
invariant-loop-rr l = records_in l.records.items ++ l.rr-iterator ≡ l.zone.records
