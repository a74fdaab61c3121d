use Rattle.std.proofs.Common.{List, ℕ, length, ◌≤◌}
use Rattle.zone_rdata.specs.Record.{Record}
use Rattle.zone_difference.specs.Lacked.{AreLacking}
use Rattle.zone_difference.specs.declared.name_case.NameCase.{NameCase}
use Rattle.zone_difference.proofs.lacking.Lacking.next.Given as goal

-- only records of which the other zone has an equal were passed
abbrev pub invariant-walk : goal.invariant-walk
invariant-walk l = record {
  ends : (case : NameCase) (all only : List Record) → AreLacking case all l.initial.self only → AreLacking case all l.self only;
  fewer : length l.self.only.records ≤ length l.initial.self.only.records;
}

abbrev pub decreases-walk : goal.decreases-walk
decreases-walk l = length l.self.only.records
