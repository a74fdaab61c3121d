use Rattle.zone_wire.proofs.Common.{ap}
use Rattle.zone_wire.proofs.Transfers.Progress.{stopped_by}
use Rattle.zone_wire.proofs.transfer.Transfer.take_answers.Goals as goal

pub returns-in-Err-clause-taken : goal.returns-in-Err-clause-taken
returns-in-Err-clause-taken c = stopped_by c.args.message.now.octets c.args.message.now.sections.answers c.in-Some.answer c.next_in.new.self c.loop-answer.answers c.args.self.now c.loop-answer.self c.take_answer.new.self c.in-Err.failing c.answer.inside.fields.offset c.loop-answer.invariant c.in-Some.ensures.some (ap (λ r. r.at.offset) c.answer.view_is) c.in-Err.ensures.fault c.in-Err.ensures.unchanged
