-- The room in which the labels of a name are put as they are read, and the labels that are put
-- there at once.
use Rattle.std.specs.Prelude.{◌≡◌, ℕ, ◌+◌, ◌≤◌, List, length, take}
use Rattle.std.specs.List.{flat_map, AllByRecursion}
use Rattle.zone_name.specs.Common.{Labels}
use Rattle.zone_name.specs.Name.{HoldsLabels, IsCasedLabel, with_length}
use Rattle.zone_wire.specs.Transfer.{octets_between}

-- the first octets are labels, each after its length, and 16 octets more have room after a name
pub record IsRoom (octets : List ℕ) (len : ℕ) : Type 0 where
  pub within : len + 17 ≤ length octets
  pub holds : HoldsLabels (take len octets)

-- labels stand one after another from an offset to another, with their letters as they are written
pub record IsRun (message : List ℕ) (start past : ℕ) : Type 0 where
  pub labels : Labels
  pub order : start ≤ past
  pub inside : past ≤ length message
  pub octets : octets_between message start past ≡ flat_map with_length labels
  pub each : AllByRecursion IsCasedLabel labels
