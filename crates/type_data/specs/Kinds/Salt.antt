-- A salt in one item, after its length (RFC 5155 3.3, 4.3).
use Rattle.std.specs.Prelude.{◌≡◌, ℕ, List, [], codes}
use Rattle.type_data.specs.Kinds.AfterLength.{FailsAfterLength, StatesAfterLength}
use Rattle.type_data.specs.Kinds.Hexadecimal.{IsHex, IsLowerHex}
use Rattle.type_data.specs.declared.fault.WordsFault.{WordsFault}
use Rattle.type_data.specs.declared.fault.WordsFault.TheVariants.{NoHexadecimal}

-- a hyphen for no octets, or hexadecimal digits for one or more
pub data IsSalt (text octets : List ℕ) : Type 0 where
  none : text ≡ codes "-" → octets ≡ [] → IsSalt text octets
  some : IsHex text octets → IsSalt text octets

abbrev pub StatesSalt : List ℕ → List ℕ → Type 0
StatesSalt text octets = StatesAfterLength IsSalt text octets

abbrev pub FailsSalt : List ℕ → WordsFault → Type 0
FailsSalt text fault = FailsAfterLength NoHexadecimal IsSalt text fault

-- a hyphen for no octets, or digits in lower case for one or more
pub data IsPrintedSalt (text octets : List ℕ) : Type 0 where
  no_octets : text ≡ codes "-" → octets ≡ [] → IsPrintedSalt text octets
  digits : IsLowerHex text octets → IsPrintedSalt text octets

abbrev pub PrintsSalt : List ℕ → List ℕ → Type 0
PrintsSalt text octets = StatesAfterLength IsPrintedSalt text octets
