-- Base64 in one item or more (RFC 4648 4; RFC 4034 2.2).
use Rattle.std.specs.Prelude.{◌≡◌, ℕ, ◌<◌, List, length}
use Rattle.base64.specs.Engines.{standard}
use Rattle.base64.specs.GeneralPurpose.{encode_of}
use Rattle.zone_name.specs.Common.{AreOctets}
use Rattle.zone_rdata.specs.Item.{RawItem}
use Rattle.type_data.specs.Kinds.Joined.{FailsAs, PrintsOneItem, StatesJoined}
use Rattle.type_data.specs.declared.fault.WordsFault.{WordsFault}
use Rattle.type_data.specs.declared.fault.WordsFault.TheVariants.{NoBase64}
pub mod Machine

-- the text is the encoding of the octets, one or more: with its padding, and unused bits of zero
pub record IsBase64 (text octets : List ℕ) : Type 0 where
  pub some : 0 < length octets
  pub each : AreOctets octets
  pub encoded : text ≡ encode_of standard octets

-- bare items whose texts join to such a text
abbrev pub StatesBase64 : List RawItem → List ℕ → Type 0
StatesBase64 items octets = StatesJoined IsBase64 items octets

abbrev pub FailsBase64 : List RawItem → WordsFault → Type 0
FailsBase64 items fault = FailsAs NoBase64 StatesBase64 items fault

-- the encoding of all octets in one item
abbrev pub PrintsBase64 : List RawItem → List ℕ → Type 0
PrintsBase64 items octets = PrintsOneItem IsBase64 items octets
