-- Names at the beginning of octets.
use Rattle.std.specs.Prelude.{◌≡◌, ℕ, List, ◌++◌, length}
use Rattle.std.specs.List.{flat_map, AllByRecursion}
use Rattle.data_names.specs.NamesInData.{HasExtent}
use Rattle.data_names.specs.declared.table.Extent.{Extent}
use Rattle.zone_name.specs.Common.{Labels}
use Rattle.zone_name.specs.Name.{IsCasedName, wire}

-- octets that begin with a name, its letters as they are written
pub record BeginsWithCased (octets : List ℕ) (name : Labels) (rest : List ℕ) : Type 0 where
  pub is_name : IsCasedName name
  pub parts : octets ≡ wire name ++ rest

-- octets that begin with so many names, which take so many octets
pub record BeginsWithMany (count : ℕ) (octets : List ℕ) (len : ℕ) : Type 0 where
  pub names : List Labels
  pub rest : List ℕ
  pub as_many : length names ≡ count
  pub each : AllByRecursion IsCasedName names
  pub parts : octets ≡ flat_map wire names ++ rest
  pub all : len ≡ length (flat_map wire names)

-- octets that begin with names of this extent, which take so many octets
pub record BeginsWithExtent (extent : Extent) (octets : List ℕ) (len : ℕ) : Type 0 where
  pub names : List Labels
  pub rest : List ℕ
  pub fits : HasExtent extent names rest
  pub each : AllByRecursion IsCasedName names
  pub parts : octets ≡ flat_map wire names ++ rest
  pub all : len ≡ length (flat_map wire names)

-- octets that are names, one after another
pub record AreNames (octets : List ℕ) : Type 0 where
  pub names : List Labels
  pub each : AllByRecursion IsCasedName names
  pub parts : octets ≡ flat_map wire names
