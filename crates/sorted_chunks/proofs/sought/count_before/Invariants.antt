use Rattle.sorted_chunks.proofs.Common.{◌≤◌, ◌-◌, length}
use Rattle.sorted_chunks.proofs.Parting.{IsNarrowed}
use Rattle.sorted_chunks.proofs.sought.count_before.Given as goal

-- what is sought comes after those below `low`, and not after those from `high` on
abbrev pub invariant-loop-low : goal.invariant-loop-low
invariant-loop-low g l = record {
  ordered : l.low ≤ l.high;
  bound : l.high ≤ length l.elements;
  parts : IsNarrowed (g.S.Sought.follows l.sought) l.elements l.low l.high;
}

abbrev pub decreases-loop-low : goal.decreases-loop-low
decreases-loop-low g l = l.high - l.low
