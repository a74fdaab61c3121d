use Rattle.zone_wire.proofs.Common.{length}
use Rattle.zone_wire.proofs.Transfers.Progress.{Pending}
use Rattle.zone_wire.proofs.transfer.Transfer.take_answers.Given as goal

abbrev pub invariant-loop-answer : goal.invariant-loop-answer
invariant-loop-answer l = Pending l.message.octets l.message.sections.answers l.answers l.fn.self l.self

abbrev pub decreases-loop-answer : goal.decreases-loop-answer
decreases-loop-answer l = length l.answers
