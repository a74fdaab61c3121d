use Rattle.zone_wire.proofs.Streams.OneStream.{records_stay, fault_is_read}
use Rattle.zone_wire.proofs.laws.what_is_decided_is_read.Goals as goal

pub returns : goal.returns
returns c = record { records = λ stream more placed other ending late is too. records_stay stream more placed other ending too.first is too.frames; fault = fault_is_read }
