-- What is known of the octets at which a bare item stops, before each is looked at by itself.
use Rattle.std.specs.Prelude.{◌≡◌, ◌≤◌, ◌+◌, ◌-◌, ℕ, List, length, map, take}
use Rattle.std.specs.Simd.Lanes.{mask_l}
use Rattle.zone_text.specs.Machine.ItemLengths.{stops_bare}
use Rattle.zone_text.specs.declared.stops.Stops.{Stops}

-- The bits tell at which of the octets before the unseen ones a bare item stops, and these are 64
-- at most.
pub record Tells (stops : Stops) (octets : List ℕ) : Type 0 where
  pub bits : stops.bits
      ≡ mask_l (map stops_bare (take (length octets - stops.unseen) octets))
  pub within : stops.unseen ≤ length octets
  pub few : length octets ≤ stops.unseen + 64
