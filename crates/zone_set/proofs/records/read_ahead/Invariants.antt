-- The heads that were read and the entries that are left are those of all entries.
use Rattle.zone_set.proofs.Common.{◌≡◌, ◌-◌, ◌++◌, map, AllByRecursion, all_records, IsLinked}
use Rattle.arrayvec.specs.ArrayVec.{array_vec_len}
use Rattle.zone_set.specs.Machine.Held.{IsSeen, seen_record}
use Rattle.zone_set.proofs.records.read_ahead.Given as goal

abbrev pub invariant-loop-entries : goal.invariant-loop-entries
invariant-loop-entries l = record {
  each : AllByRecursion (IsSeen l.fn.class l.octets) l.heads.items;
  left : AllByRecursion (IsLinked l.fn.class l.octets) l.entries;
  same : all_records l.fn.class l.octets l.fn.entries ≡ map (seen_record l.fn.class l.octets) l.heads.items ++ all_records l.fn.class l.octets l.entries;
}

abbrev pub decreases-loop-entries : goal.decreases-loop-entries
decreases-loop-entries l = 16 - array_vec_len l.heads
