-- Numbers of 8, 16 and 32 bits, in decimal digits with leading zeros or not (RFC 1035 5.1).
use Rattle.std.specs.Prelude.{◌≡◌, ℕ, decimal, List, [], ◌∷◌, Option, Some, None, if◌then◌else◌}
use Rattle.std.specs.List.{list_all}
use Rattle.std.specs.Int.{Width, w8, w16, w32, to_be_bytes}
use Rattle.zone_name.specs.Common.{NothingIs}
use Rattle.zone_name.specs.Spelling.{is_digit}
use Rattle.zone_rdata.specs.Fields.Number.{IsNumber}
use Rattle.zone_rdata.specs.Item.{RawItem, bare, quoted}
use Rattle.zone_rdata.specs.Number.{IsDecimal, decimal_value}
use Rattle.type_data.specs.declared.fault.WordsFault.{WordsFault}
use Rattle.type_data.specs.declared.fault.WordsFault.TheVariants.{NotANumber, TooLarge}
pub mod Machine

-- a number that is stated has its place in these octets, the highest first
pub record IsInOctets (Stated : ℕ → Type 0) (w : Width) (octets : List ℕ) : Type 0 where
  pub number : ℕ
  pub stated : Stated number
  pub fits : IsNumber w number
  pub value : octets ≡ to_be_bytes w number

-- why no number is stated that has its place in so many octets
pub data NumberFails (Stated : ℕ → Type 0) (w : Width) : WordsFault → Type 0 where
  no_number : NothingIs Stated → NumberFails Stated w NotANumber
  too_large : (n : ℕ) → Stated n → (IsNumber w n → ⊥) → NumberFails Stated w TooLarge

abbrev pub StatesU8 : List ℕ → List ℕ → Type 0
StatesU8 text octets = IsInOctets (IsDecimal text) w8 octets

abbrev pub FailsU8 : List ℕ → WordsFault → Type 0
FailsU8 text fault = NumberFails (IsDecimal text) w8 fault

abbrev pub StatesU16 : List ℕ → List ℕ → Type 0
StatesU16 text octets = IsInOctets (IsDecimal text) w16 octets

abbrev pub FailsU16 : List ℕ → WordsFault → Type 0
FailsU16 text fault = NumberFails (IsDecimal text) w16 fault

abbrev pub StatesU32 : List ℕ → List ℕ → Type 0
StatesU32 text octets = IsInOctets (IsDecimal text) w32 octets

abbrev pub FailsU32 : List ℕ → WordsFault → Type 0
FailsU32 text fault = NumberFails (IsDecimal text) w32 fault

-- the number that a bare item states in digits, one or more, if they are
abbrev pub digits_number : List ℕ → Option ℕ
digits_number [] = None
digits_number (c ∷ text) =
    if list_all is_digit (c ∷ text) then Some (decimal_value (c ∷ text)) else None

abbrev pub stated_number : RawItem → Option ℕ
stated_number (bare text) = digits_number text
stated_number (quoted text) = None

-- decimal digits without leading zeros are printed
abbrev pub PrintsNumber : Width → List ℕ → List ℕ → Type 0
PrintsNumber w text octets = IsInOctets (λ n. text ≡ decimal n) w octets

abbrev pub PrintsU8 : List ℕ → List ℕ → Type 0
PrintsU8 text octets = PrintsNumber w8 text octets

abbrev pub PrintsU16 : List ℕ → List ℕ → Type 0
PrintsU16 text octets = PrintsNumber w16 text octets

abbrev pub PrintsU32 : List ℕ → List ℕ → Type 0
PrintsU32 text octets = PrintsNumber w32 text octets
