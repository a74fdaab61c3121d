use Rattle.zone_wire.proofs.Streams.OneStream.{message_verdict}
use Rattle.zone_wire.proofs.laws.frame.a_message_after_others.Goals as goal

pub returns : goal.returns
returns c = message_verdict
