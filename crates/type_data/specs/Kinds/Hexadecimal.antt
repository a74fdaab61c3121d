-- Hexadecimal digits in one item or more (RFC 4648 8; RFC 4034 5.3).
use Rattle.std.specs.Prelude.{◌≡◌, ℕ, ◌<◌, List, length, Ok}
use Rattle.hex.specs.Hex.{decode_of, encode_lower}
use Rattle.zone_name.specs.Common.{AreOctets}
use Rattle.zone_rdata.specs.Item.{RawItem}
use Rattle.type_data.specs.Kinds.Joined.{FailsAs, PrintsOneItem, StatesJoined}
use Rattle.type_data.specs.declared.fault.WordsFault.{WordsFault}
use Rattle.type_data.specs.declared.fault.WordsFault.TheVariants.{NoHexadecimal}

-- two hexadecimal digits in either letter case for each octet, of which there is one or more
pub record IsHex (text octets : List ℕ) : Type 0 where
  pub some : 0 < length octets
  pub digits : decode_of text ≡ Ok octets

-- bare items whose texts join to such digits: a pair of digits may be parted between items
abbrev pub StatesHex : List RawItem → List ℕ → Type 0
StatesHex items octets = StatesJoined IsHex items octets

abbrev pub FailsHex : List RawItem → WordsFault → Type 0
FailsHex items fault = FailsAs NoHexadecimal StatesHex items fault

-- two digits in lower case for each octet, of which there is one or more
pub record IsLowerHex (text octets : List ℕ) : Type 0 where
  pub some : 0 < length octets
  pub each : AreOctets octets
  pub digits : text ≡ encode_lower octets

-- the digits of all octets in one item
abbrev pub PrintsHex : List RawItem → List ℕ → Type 0
PrintsHex items octets = PrintsOneItem IsLowerHex items octets
