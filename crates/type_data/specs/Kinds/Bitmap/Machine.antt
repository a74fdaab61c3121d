-- A window that is written after others, where it has a type, and the bits of types in theirs; a
-- window at the front of octets.
use Rattle.std.specs.Prelude.{◌≡◌, ℕ, ◌/◌, ◌%◌, ◌↔◌, List, ◌++◌}
use Rattle.std.specs.List.{Contains}
use Rattle.type_data.specs.Kinds.Bitmap.{HasBit, IsWindow, Window, window_octets}

-- nothing, where no bit is set, or the window of these bits
pub data AppendsWindow (number : ℕ) (bits old new : List ℕ) : Type 0 where
  nothing : ((n : ℕ) → HasBit bits n → ⊥) → new ≡ old → AppendsWindow number bits old new
  window : (w : Window) → IsWindow w → w.number ≡ number
      → ((n : ℕ) → HasBit w.bits n ↔ HasBit bits n) → new ≡ old ++ window_octets w
      → AppendsWindow number bits old new

-- the place in its window of one of the types
abbrev pub HavePlace : List ℕ → ℕ → Type 0
HavePlace types k = (n : ℕ) × (Contains types n × (n % 256 ≡ k))

-- the window has the type
abbrev pub IsInWindow : ℕ → List ℕ → ℕ → Type 0
IsInWindow number bits n = (n / 256 ≡ number) × HasBit bits (n % 256)

-- a window stands at the front of octets, and `rest` is left
pub record BeginsWithWindow (octets : List ℕ) (w : Window) (rest : List ℕ) : Type 0 where
  pub is : IsWindow w
  pub whole : octets ≡ window_octets w ++ rest

abbrev pub window_of : ℕ → List ℕ → Window
window_of number bits = record { number = number; bits = bits }
