use Rattle.zone_wire.proofs.Messages.MessageFaults.{message_verdict}
use Rattle.zone_wire.proofs.laws.a_message_or_a_fault.Goals as goal

pub returns : goal.returns
returns c = message_verdict
