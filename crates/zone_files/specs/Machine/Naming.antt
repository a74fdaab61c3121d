-- The labels of a name, one by one.
use Rattle.std.specs.Prelude.{◌≡◌, ℕ, List, ◌∷◌}
use Rattle.zone_name.specs.Common.{Labels}
use Rattle.zone_name.specs.Name.{wire}

-- the first of the labels was taken, and the octets of the others are left
pub record TakesLabel (labels : Labels) (label left : List ℕ) : Type 0 where
  pub others : Labels
  pub first : labels ≡ label ∷ others
  pub octets : left ≡ wire others
