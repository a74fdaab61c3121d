use Rattle.type_data.proofs.Common.{IsMissing, drop, length, ◌≤◌}
use Rattle.type_data.proofs.cut.cut_at_last.Given as goal

abbrev pub invariant-loop-end : goal.invariant-loop-end
invariant-loop-end l = record { inside : l.end ≤ length l.text; missing : IsMissing l.octet (drop l.end l.text) }

abbrev pub decreases-loop-end : goal.decreases-loop-end
decreases-loop-end l = l.end
