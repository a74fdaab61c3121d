-- Prefixes of addresses have few items.
use Rattle.type_data.proofs.Common.{List, RawItem, [], ap, arith, length, length-append, ℕ, ◌<◌, ◌∷◌, ◌≤◌}
use Rattle.zone_rdata.specs.Item.{bare, quoted}
use Rattle.type_data.specs.Kinds.Prefixes.{StatesPrefix, StatesPrefixes}

prefix_some : (item : RawItem) (octets : List ℕ) → StatesPrefix item octets → 0 < length octets
prefix_some (bare text) octets states = omega (arith, ap length states.1.1.value)
prefix_some (quoted text) octets states = absurd states

pub prefixes_stated : (items : List RawItem) (octets : List ℕ) → StatesPrefixes items octets → length items ≤ length octets
prefixes_stated [] octets states = omega arith
prefixes_stated (item ∷ items) octets states =
    omega (arith, prefix_some item states.0 states.2.0, prefixes_stated items states.1 states.2.1.0, ap length states.2.1.1, length-append states.0 states.1)
