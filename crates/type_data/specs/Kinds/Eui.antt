-- Identifiers of hardware in text, EUI-48 and EUI-64 (RFC 7043 3.2, 4.2).
use Rattle.std.specs.Prelude.{◌≡◌, ℕ, List, [], ◌∷◌, length, map, Ok}
use Rattle.std.specs.List.{AllZip, join_with_byte}
use Rattle.hex.specs.Hex.{decode_sized, encode_lower}
use Rattle.zone_name.specs.Common.{AreOctets}
use Rattle.type_data.specs.Fault.{NothingStated}
use Rattle.type_data.specs.declared.fault.WordsFault.{WordsFault}
use Rattle.type_data.specs.declared.fault.WordsFault.TheVariants.{NotAnAddress}
pub mod Machine

-- two hexadecimal digits in either letter case, and their octet
abbrev pub IsPair : List ℕ → ℕ → Type 0
IsPair text octet = decode_sized text 1 ≡ Ok (octet ∷ [])

-- so many pairs parted by hyphens, and their octets
pub record StatesEui (count : ℕ) (text octets : List ℕ) : Type 0 where
  pub pairs : List (List ℕ)
  pub each : AllZip IsPair pairs octets
  pub parted : text ≡ join_with_byte 45 pairs
  pub counted : length octets ≡ count

abbrev pub FailsEui : ℕ → List ℕ → WordsFault → Type 0
FailsEui count text fault = NothingStated NotAnAddress (StatesEui count text) fault

-- two digits in lower case for each octet, with hyphens between them
abbrev pub eui_text : List ℕ → List ℕ
eui_text octets = join_with_byte 45 (map (λ c. encode_lower (c ∷ [])) octets)

pub record PrintsEui (count : ℕ) (text octets : List ℕ) : Type 0 where
  pub counted : length octets ≡ count
  pub each : AreOctets octets
  pub printed : text ≡ eui_text octets
