-- The records before those to come are equal, and the number of the line counts them.
use Rattle.zone_engine.proofs.Compared.{Walked}
use Rattle.zone_engine.proofs.comparison.first_difference.Given as goal

abbrev pub invariant-loop-rr : goal.invariant-loop-rr
invariant-loop-rr l = Walked l.zone.records l.other.records l.rr-iterator l.others l.line
