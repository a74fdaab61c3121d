use Rattle.zone_wire.proofs.Streams.OneStream.{one_reading, one_decision}
use Rattle.zone_wire.proofs.laws.one_reading_of_a_stream.Goals as goal

pub returns : goal.returns
returns c = record { whole = one_reading; decided = one_decision }
