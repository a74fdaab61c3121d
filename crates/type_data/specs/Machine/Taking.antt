-- Octets that are taken from the front of a record's data.
use Rattle.std.specs.Prelude.{◌≡◌, ℕ, List, ◌++◌}
use Rattle.zone_name.specs.Name.{with_length}

-- no octets after their number, which is one octet, stand at the front
abbrev pub NoneCounted : List ℕ → Type 0
NoneCounted octets = (value rest : List ℕ) → octets ≡ with_length value ++ rest → ⊥
