use Rattle.zone_text.proofs.Common.{length, map, raw, ◌+◌, ◌≤◌}
use Rattle.zone_text.proofs.Scanning.Walking.{Walked}
use Rattle.zone_text.specs.Machine.Stops.{Tells}
use Rattle.zone_text.proofs.walk.walk_on.Given as goal

abbrev pub invariant-loop-stop : goal.invariant-loop-stop
invariant-loop-stop l = record {
  walked : Walked l.octets l.walk.rest.now l.walk.depth l.walk.feeds l.keeps (map raw l.items.items);
  tells : Tells l.walk.stops l.walk.rest.now;
  deep : l.walk.depth + length l.walk.rest.now ≤ length l.octets;
  few : l.walk.feeds + length l.walk.rest.now ≤ length l.octets;
}

abbrev pub decreases-loop-stop : goal.decreases-loop-stop
decreases-loop-stop l = length l.walk.rest.now
