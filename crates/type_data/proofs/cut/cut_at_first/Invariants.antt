use Rattle.type_data.proofs.Common.{IsMissing, take}
use Rattle.type_data.proofs.cut.cut_at_first.Given as goal

abbrev pub invariant-loop-at : goal.invariant-loop-at
invariant-loop-at l = IsMissing l.octet (take l.at l.text)
