-- Octets that stand after their length, which is one octet (RFC 5155 3.2).
use Rattle.std.specs.Prelude.{◌≡◌, ℕ, ◌<◌, ◌≤◌, List, length}
use Rattle.zone_name.specs.Common.{NothingIs}
use Rattle.zone_name.specs.Name.{with_length}
use Rattle.type_data.specs.declared.fault.WordsFault.{WordsFault}
use Rattle.type_data.specs.declared.fault.WordsFault.TheVariants.{TooLong}

-- the text stands for at most 255 octets, and these follow their length
pub record StatesAfterLength (StandsFor : List ℕ → List ℕ → Type 0) (text octets : List ℕ)
    : Type 0 where
  pub value : List ℕ
  pub stands : StandsFor text value
  pub short : length value ≤ 255
  pub written : octets ≡ with_length value

-- why the text states none: it stands for no octets, which is the fault of the kind, or for more
-- than 255
pub data FailsAfterLength (own : WordsFault) (StandsFor : List ℕ → List ℕ → Type 0) (text : List ℕ)
    : WordsFault → Type 0 where
  of_no_octets : NothingIs (StandsFor text) → FailsAfterLength own StandsFor text own
  of_too_many : (value : List ℕ) → StandsFor text value → 255 < length value
      → FailsAfterLength own StandsFor text TooLong
