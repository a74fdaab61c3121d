-- Octets that come after those that are there.
use Rattle.std.specs.Prelude.{◌≡◌, ℕ, List, ◌++◌}

-- the octets of a value that is stated are appended
pub record Appends {V : Type 0} (Stated : V → Type 0) (octets : V → List ℕ)
    (old new : List ℕ) : Type 0 where
  pub value : V
  pub stated : Stated value
  pub written : new ≡ old ++ octets value
