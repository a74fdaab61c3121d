-- A node identifier's octets are its own.
use Rattle.type_data.proofs.Common.{List, false, ℕ, ◌≡◌}
use Rattle.zone_rdata.proofs.Addresses.AddressParts.{parts_unique}
use Rattle.type_data.specs.Kinds.NodeId.{StatesNodeId}

pub node_id_once : (text a b : List ℕ) → StatesNodeId text a → StatesNodeId text b → a ≡ b
node_id_once text a b x y = parts_unique false text a b x.groups y.groups
