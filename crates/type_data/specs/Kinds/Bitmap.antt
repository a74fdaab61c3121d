-- Type bitmaps: windows of 256 types each, a bit for each type (RFC 4034 4.1.2).
use Rattle.std.specs.Prelude.{◌≡◌, ◌≢◌, ℕ, ◌+◌, ◌-◌, ◌/◌, ◌%◌, ◌<◌, ◌≤◌, ◌↔◌, ◌⊎◌, List, [], ◌∷◌, length, slice_index, ⊤}
use Rattle.std.specs.Int.{bit_at}
use Rattle.std.specs.List.{flat_map, AllByRecursion}
use Rattle.zone_name.specs.Common.{AreOctets}
pub mod Machine

-- the bit of that number is set, of which 0 is the highest of the first octet
abbrev pub HasBit : List ℕ → ℕ → Type 0
HasBit octets n = bit_at (slice_index octets (n / 8)) (7 - n % 8) ≡ 1

-- the higher octet of some types, and the bits of their lower octets
pub record Window : Type 0 where
  pub number : ℕ
  pub bits : List ℕ

-- its number, the count of its octets, and these
abbrev pub window_octets : Window → List ℕ
window_octets w = w.number ∷ length w.bits ∷ w.bits

-- 1 to 32 octets, of which the last isn't 0
pub record IsWindow (w : Window) : Type 0 where
  pub number : w.number < 256
  pub some : 0 < length w.bits
  pub few : length w.bits ≤ 32
  pub octets : AreOctets w.bits
  pub last : slice_index w.bits (length w.bits - 1) ≢ 0

-- the numbers ascend, from a least one on
abbrev pub AscendFrom : ℕ → List Window → Type 0
AscendFrom least [] = ⊤
AscendFrom least (w ∷ windows) = (least ≤ w.number) × AscendFrom (w.number + 1) windows

-- the window of a type has its bit
abbrev pub HaveType : List Window → ℕ → Type 0
HaveType [] n = ⊥
HaveType (w ∷ windows) n =
    ((n / 256 ≡ w.number) × HasBit w.bits (n % 256)) ⊎ HaveType windows n

-- the octets are windows, ascending, that have exactly the types for which `Is` holds
pub record IsBitmapOf (Is : ℕ → Type 0) (octets : List ℕ) : Type 0 where
  pub windows : List Window
  pub parts : octets ≡ flat_map window_octets windows
  pub each : AllByRecursion IsWindow windows
  pub ascend : AscendFrom 0 windows
  pub types : (n : ℕ) → HaveType windows n ↔ Is n
