use Rattle.zone_wire.proofs.Messages.Sections.{sections_read}
use Rattle.zone_wire.proofs.message.Message.read.Goals as goal

pub returns-in_err-answers-clause-only : goal.returns-in_err-answers-clause-only
returns-in_err-answers-clause-only c = λ sections is.
    let read = sections_read c.args.octets.now sections is in
    let refused = c.in_err-answers.ensures in
    let none : ⊥ = cc in
    absurd none
