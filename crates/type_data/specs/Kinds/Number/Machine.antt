-- A number that was read, and its place in octets.
use Rattle.std.specs.Prelude.{◌≡◌, ℕ, ◌<◌, List, Option, Some, None}
use Rattle.std.specs.Int.{Width}
use Rattle.type_data.specs.Kinds.Number.{IsInOctets, NumberFails}
use Rattle.type_data.specs.declared.fault.WordsFault.{WordsFault}
use Rattle.type_data.specs.declared.fault.WordsFault.TheVariants.{NotANumber, TooLarge}

-- why what was read is no number at most this great
abbrev pub IsOver : ℕ → Option ℕ → WordsFault → Type 0
IsOver most None fault = fault ≡ NotANumber
IsOver most (Some n) fault = (fault ≡ TooLarge) × (most < n)

-- the number that was read has its place in the octets
abbrev pub Fits : Width → Option ℕ → List ℕ → Type 0
Fits w number octets = IsInOctets (λ n. number ≡ Some n) w octets

abbrev pub FailsToFit : Width → Option ℕ → WordsFault → Type 0
FailsToFit w number fault = NumberFails (λ n. number ≡ Some n) w fault
