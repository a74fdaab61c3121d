-- Locations have few items.
use Rattle.type_data.proofs.Common.{List, RawItem, ap, arith, length, ℕ, ◌≡◌, ◌≤◌}
use Rattle.type_data.specs.Kinds.Location.{PrintsLocation}

pub location_few : (items : List RawItem) (octets : List ℕ) → PrintsLocation items octets → length items ≤ 12
location_few items octets printed = let count : length items ≡ 12 = ap length printed.1.1.0 in omega (arith, count)
