-- The zone of a main file and the files that it includes, none of which is longer than the limit (RFC 1035
-- 5.1; the limit is this project's own).
use Rattle.std.specs.Prelude.{ℕ, List, Option}
use Rattle.zone_name.specs.Common.{AreOctets, Labels}
use Rattle.zone_name.specs.Name.{IsCasedName}
use Rattle.zone_set.specs.Zone.{Zone}
use Rattle.zone_files.specs.Expansion.{Ending, Files, IsExpanded}
use Rattle.zone_files.specs.ExpandedLoader.{FilesDenote}
use Rattle.zone_files.specs.Reading.{AreWithinLimit}

-- a main file under its name and its origin, and the files that it includes, below a directory
pub record FileTree : Type 0 where
  pub directory : Option (List ℕ)
  pub name : List ℕ
  pub origin : Labels
  pub octets : List ℕ
  pub files : Files

-- the expanded text, with or without a fault
abbrev pub HasExpandedText : FileTree → List ℕ → Type 0
HasExpandedText t text =
    (ending : Ending) × IsExpanded t.directory t.name t.origin t.octets t.files text ending

-- the origin is a name, and the expanded text is made of octets
pub record IsTree (t : FileTree) : Type 0 where
  pub name : IsCasedName t.origin
  pub octets : (text : List ℕ) → HasExpandedText t text → AreOctets text

-- No file is longer than the limit, and the expanded text denotes the zone: that isn't longer either.
pub record TreeDenotes (t : FileTree) (z : Zone) : Type 0 where
  pub within : AreWithinLimit t.octets t.files
  pub denotes : FilesDenote t.directory t.name t.origin t.octets t.files z

-- both denote the same zone
abbrev pub AreOneZoneOfTrees : FileTree → FileTree → Type 0
AreOneZoneOfTrees a b = (z : Zone) × TreeDenotes a z × TreeDenotes b z
