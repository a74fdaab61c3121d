use Rattle.zone_wire.proofs.Streams.OneStream.{records_stay, fault_stays}
use Rattle.zone_wire.proofs.laws.what_is_decided_stays.Goals as goal

pub returns : goal.returns
returns c = record { records = records_stay; fault = fault_stays }
