-- Node identifiers in text (RFC 6742 2.1).
use Rattle.std.specs.Prelude.{◌≡◌, ℕ, List, length, map}
use Rattle.std.specs.List.{AllByRecursion, flat_map, join_with_byte}
use Rattle.hex.specs.Hex.{encode_lower}
use Rattle.zone_name.specs.Common.{AreOctets}
use Rattle.zone_rdata.specs.Address.{AreFourGroups}
use Rattle.type_data.specs.Fault.{NothingStated}
use Rattle.type_data.specs.declared.fault.WordsFault.{WordsFault}
use Rattle.type_data.specs.declared.fault.WordsFault.TheVariants.{NotAnAddress}

-- four groups of one to four hexadecimal digits, parted by colons
abbrev pub StatesNodeId : List ℕ → List ℕ → Type 0
StatesNodeId text octets = AreFourGroups text octets

abbrev pub FailsNodeId : List ℕ → WordsFault → Type 0
FailsNodeId text fault = NothingStated NotAnAddress (StatesNodeId text) fault

-- four groups of four hexadecimal digits in lower case, the digits of two octets each, are printed
-- with colons between them (RFC 6742 2.1.2)
pub record PrintsNodeId (text octets : List ℕ) : Type 0 where
  pub groups : List (List ℕ)
  pub four : length groups ≡ 4
  pub two : AllByRecursion (λ group. length group ≡ 2) groups
  pub each : AreOctets octets
  pub whole : octets ≡ flat_map (λ group. group) groups
  pub printed : text ≡ join_with_byte 58 (map encode_lower groups)
