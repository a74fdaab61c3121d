use Rattle.zone_wire.proofs.Common.{None}
use Rattle.zone_wire.proofs.Transfers.GivenTransfers.{transfer_reads}
use Rattle.zone_wire.proofs.Streams.OneStream.{one_reading}
use Rattle.zone_wire.proofs.laws.one_list_of_a_stream.Goals as goal

pub returns : goal.returns
returns c = λ stream placed other states too. (one_reading stream placed other None None (transfer_reads stream placed states) (transfer_reads stream other too)).0
