-- The lines so far and those to come are the text.
use Rattle.zone_print.proofs.Common.{◌≡◌, ◌++◌, canon, lines}
use Rattle.zone_print.proofs.print.push_zone_within.Given as goal

abbrev pub invariant-loop-rr : goal.invariant-loop-rr
invariant-loop-rr l = l.text ++ lines l.rr-iterator ≡ canon l.zone
