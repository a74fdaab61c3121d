-- The form of a text that the code saw, and labels as it holds them.
use Rattle.std.specs.Prelude.{◌≡◌, ◌≢◌, codes, ℕ, List}
use Rattle.std.specs.List.{flat_map}
use Rattle.zone_name.specs.Name.{labels_of, with_length, IsCasedName}
use Rattle.zone_name.specs.declared.reading.NameShape.{NameShape}
use Rattle.zone_name.specs.declared.reading.NameShape.TheVariants.{Root, Origin, Labels}

-- a dot alone, an `@` alone, or another text
abbrev pub HasShape : List ℕ → NameShape → Type 0
HasShape text Root = text ≡ codes "."
HasShape text Origin = text ≡ codes "@"
HasShape text Labels = (text ≢ codes ".") × (text ≢ codes "@")

-- the octets of labels, each after its length, with their letters as they are written
pub record HoldsCasedLabels (octets : List ℕ) : Type 0 where
  pub whole : flat_map with_length (labels_of octets) ≡ octets
  pub name : IsCasedName (labels_of octets)
