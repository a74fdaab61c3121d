use Rattle.std.proofs.Common.{List, ℕ, length, ◌≤◌}
use Rattle.zone_rdata.specs.Record.{Record}
use Rattle.zone_difference.specs.Walk.{AreToCome}
use Rattle.zone_difference.proofs.only_in.OnlyIn.next.Given as goal

-- only records that the other zone has were passed
abbrev pub invariant-walk : goal.invariant-walk
invariant-walk l = record {
  ends : (only : List Record) → AreToCome l.initial.self only → AreToCome l.self only;
  fewer : length l.self.records ≤ length l.initial.self.records;
}

abbrev pub decreases-walk : goal.decreases-walk
decreases-walk l = length l.self.records
