use Rattle.zone_wire.proofs.Messages.Sections.{one_message}
use Rattle.zone_wire.proofs.laws.one_message_of_octets.Goals as goal

pub returns : goal.returns
returns c = one_message
