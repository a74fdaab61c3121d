-- Tags of properties of certification authorities (RFC 8659 4.1).
use Rattle.std.specs.Prelude.{◌≡◌, ℕ, ◌<◌, ◌≤◌, List, length, nat_le, ◌&&◌, ◌||◌, Bool, true}
use Rattle.std.specs.List.{AllByRecursion}
use Rattle.zone_name.specs.Name.{with_length}
use Rattle.type_data.specs.Fault.{NothingStated}
use Rattle.type_data.specs.declared.fault.WordsFault.{WordsFault}
use Rattle.type_data.specs.declared.fault.WordsFault.TheVariants.{NotATag}

-- a digit, or a letter of ASCII in either case
abbrev pub is_letter_or_digit : ℕ → Bool
is_letter_or_digit c =
    (nat_le 48 c && nat_le c 57) || (nat_le 65 c && nat_le c 90) || (nat_le 97 c && nat_le c 122)

-- 1 to 255 letters and digits
pub record IsTag (text : List ℕ) : Type 0 where
  pub some : 0 < length text
  pub few : length text ≤ 255
  pub each : AllByRecursion (λ c. is_letter_or_digit c ≡ true) text

-- a tag after its length, its letters as they stand
abbrev pub StatesTag : List ℕ → List ℕ → Type 0
StatesTag text octets = IsTag text × (octets ≡ with_length text)

abbrev pub FailsTag : List ℕ → WordsFault → Type 0
FailsTag text fault = NothingStated NotATag (StatesTag text) fault

-- the letters and digits as they stand
abbrev pub PrintsTag : List ℕ → List ℕ → Type 0
PrintsTag text octets = StatesTag text octets
