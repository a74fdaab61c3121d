-- Names that are printed from the front of octets.
use Rattle.std.specs.Prelude.{◌≡◌, ℕ, ◌≤◌, List, ◌++◌, length}
use Rattle.std.specs.List.{flat_map}
use Rattle.zone_name.specs.Common.{Labels}
use Rattle.zone_name.specs.Name.{IsCasedName, wire, with_length}
use Rattle.zone_name.specs.Text.{label_text}

-- no label stands at the front
abbrev pub NoLabel : List ℕ → Type 0
NoLabel octets =
    (label rest : List ℕ) → length label ≤ 63 → octets ≡ with_length label ++ rest → ⊥

-- the labels of the name at the front are appended, which are none where it is the root
pub record PrintsLabels (octets rest old new : List ℕ) : Type 0 where
  pub labels : Labels
  pub name : IsCasedName labels
  pub whole : octets ≡ wire labels ++ rest
  pub appended : new ≡ old ++ flat_map label_text labels
