use Rattle.zone_wire.proofs.Streams.OneStream.{read_fits}
use Rattle.zone_wire.proofs.laws.what_is_read_is_records.Goals as goal

pub returns : goal.returns
returns c = λ stream placed ending each reads. read_fits stream placed ending reads
