use Rattle.zone_text.proofs.Common.{[], length, ◌≡◌}
use Rattle.zone_text.proofs.Scanning.FedPieces.{HasFed}
use Rattle.zone_text.specs.Machine.Stops.{Tells}
use Rattle.zone_text.proofs.splitter.EntrySplitter.feed.Given as goal

abbrev pub decreases-loop-self : goal.decreases-loop-self
decreases-loop-self l = length l.rest

abbrev pub invariant-loop-self : goal.invariant-loop-self
invariant-loop-self l =
    record {
      fed : HasFed l.fn.self l.self l.piece l.rest;
      tells : Tells l.stops l.rest;
      nothing : l.piece ≡ [] → (l.self ≡ l.fn.self) × (l.rest ≡ []);
    }
