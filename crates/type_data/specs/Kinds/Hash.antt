-- A hash in base32hex without padding in one item, after its length (RFC 4648 7; RFC 5155 3.3).
use Rattle.std.specs.Prelude.{◌≡◌, ℕ, ◌+◌, ◌-◌, ◌*◌, ◌^◌, ◌<◌, List, length, fold, nat_le, ◌&&◌, if◌then◌else◌, Option, Some, None}
use Rattle.std.specs.List.{AllByRecursion, AllZip}
use Rattle.zone_name.specs.Common.{AreOctets}
use Rattle.zone_name.specs.Name.{folded_octet}
use Rattle.type_data.specs.Kinds.AfterLength.{FailsAfterLength, StatesAfterLength}
use Rattle.type_data.specs.declared.fault.WordsFault.{WordsFault}
use Rattle.type_data.specs.declared.fault.WordsFault.TheVariants.{NoBase32Hex}
pub mod Machine

-- the value of a digit, `0` to `9` and then `A` to `V` in either letter case (RFC 4648 7)
abbrev pub base32_digit : ℕ → Option ℕ
base32_digit c =
    if nat_le 48 c && nat_le c 57 then Some (c - 48)
    else if nat_le 65 c && nat_le c 86 then Some (c - 55)
    else if nat_le 97 c && nat_le c 118 then Some (c - 87)
    else None

-- numbers below a base as the digits of one number, the highest first
abbrev pub number_of : ℕ → List ℕ → ℕ
number_of base digits = fold (λ n d. n * base + d) 0 digits

-- Digits of five bits that stand for octets, one or more. Their bits are those of the octets, from
-- the first on, and then fewer unused bits than a digit has, which are zero.
pub record IsBase32Hex (text octets : List ℕ) : Type 0 where
  pub some : 0 < length octets
  pub each : AreOctets octets
  pub digits : List ℕ
  pub spelt : AllZip (λ c d. base32_digit c ≡ Some d) text digits
  pub unused : ℕ
  pub few : unused < 5
  pub count : 5 * length digits ≡ 8 * length octets + unused
  pub bits : number_of 32 digits ≡ number_of 256 octets * 2 ^ unused

abbrev pub StatesHash : List ℕ → List ℕ → Type 0
StatesHash text octets = StatesAfterLength IsBase32Hex text octets

abbrev pub FailsHash : List ℕ → WordsFault → Type 0
FailsHash text fault = FailsAfterLength NoBase32Hex IsBase32Hex text fault

-- such digits in lower case
pub record IsLowerBase32Hex (text octets : List ℕ) : Type 0 where
  pub is : IsBase32Hex text octets
  pub lower : AllByRecursion (λ c. folded_octet c ≡ c) text

abbrev pub PrintsHash : List ℕ → List ℕ → Type 0
PrintsHash text octets = StatesAfterLength IsLowerBase32Hex text octets
