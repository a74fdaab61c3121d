use Rattle.zone_wire.proofs.Common.{Open, [], refl}
use Rattle.zone_wire.proofs.Streams.Feeding.{follow_stands}
use Rattle.zone_wire.proofs.transfer_source.TransferSource.new.Goals as goal

pub returns-clause-stands : goal.returns-clause-stands
returns-clause-stands c = follow_stands Open 0 c.new.result.transfer c.new.result.unfinished.items [] [] refl refl refl c.new.ensures.follow
