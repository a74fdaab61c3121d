-- Octets that are compared eight at a time.
use Rattle.std.specs.Prelude.{◌≡◌, ℕ, ◌<◌, ◌⊎◌, List, ◌++◌, length}

-- the same octets begin both, and of one or the other fewer than eight follow
pub record AreSameButForFew (a b : List ℕ) : Type 0 where
  pub front : List ℕ
  pub left : List ℕ
  pub right : List ℕ
  pub first : a ≡ front ++ left
  pub second : b ≡ front ++ right
  pub few : (length left < 8) ⊎ (length right < 8)
