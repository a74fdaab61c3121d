use Rattle.zone_wire.proofs.Common.{[], length, ◌≡◌}
use Rattle.zone_wire.proofs.Streams.Feeding.{FedSoFar}
use Rattle.zone_wire.proofs.framer.Framer.feed.Given as goal

abbrev pub invariant-loop-self : goal.invariant-loop-self
invariant-loop-self l =
    record {
      fed : FedSoFar l.fn.piece l.rest l.fn.self l.self;
      nothing : l.fn.piece ≡ [] → (l.self ≡ l.fn.self) × (l.rest ≡ []);
    }

abbrev pub decreases-loop-self : goal.decreases-loop-self
decreases-loop-self l = length l.rest
