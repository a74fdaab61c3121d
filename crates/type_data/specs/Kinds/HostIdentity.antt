-- The tag of a host's identity (HIT) and its public key, each after its length (RFC 8005 5, 6).
use Rattle.std.specs.Prelude.{◌≡◌, ℕ, ◌<◌, ◌≤◌, ◌++◌, List, length}
use Rattle.std.specs.Int.{w16, to_be_bytes}
use Rattle.zone_name.specs.Common.{NothingIs}
use Rattle.type_data.specs.Kinds.AfterLength.{FailsAfterLength, StatesAfterLength}
use Rattle.type_data.specs.Kinds.Base64.{IsBase64}
use Rattle.type_data.specs.Kinds.Hexadecimal.{IsHex, IsLowerHex}
use Rattle.type_data.specs.declared.fault.WordsFault.{WordsFault}
use Rattle.type_data.specs.declared.fault.WordsFault.TheVariants.{NoBase64, NoHexadecimal, TooLong}
pub mod Machine

-- hexadecimal digits of at most 255 octets
abbrev pub StatesHostIdentityTag : List ℕ → List ℕ → Type 0
StatesHostIdentityTag text octets = StatesAfterLength IsHex text octets

abbrev pub FailsHostIdentityTag : List ℕ → WordsFault → Type 0
FailsHostIdentityTag text fault = FailsAfterLength NoHexadecimal IsHex text fault

-- base64 of at most 65,535 octets, and these follow their length, which is two
pub record StatesPublicKey (text octets : List ℕ) : Type 0 where
  pub key : List ℕ
  pub stands : IsBase64 text key
  pub short : length key ≤ 65535
  pub written : octets ≡ to_be_bytes w16 (length key) ++ key

-- why the text states none
pub data FailsPublicKey (text : List ℕ) : WordsFault → Type 0 where
  no_key : NothingIs (IsBase64 text) → FailsPublicKey text NoBase64
  long_key : (key : List ℕ) → IsBase64 text key → 65535 < length key → FailsPublicKey text TooLong

abbrev pub PrintsHostIdentityTag : List ℕ → List ℕ → Type 0
PrintsHostIdentityTag text octets = StatesAfterLength IsLowerHex text octets

abbrev pub PrintsPublicKey : List ℕ → List ℕ → Type 0
PrintsPublicKey text octets = StatesPublicKey text octets
