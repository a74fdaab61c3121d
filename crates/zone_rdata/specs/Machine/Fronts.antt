-- Octets that begin with what one kind of field holds (RFC 1035 3.3).
use Rattle.std.specs.Prelude.{◌≡◌, ℕ, ◌<◌, List, ◌++◌, length, take}
use Rattle.std.specs.List.{flat_map, AllByRecursion}
use Rattle.zone_name.specs.Common.{Labels}
use Rattle.zone_name.specs.Name.{IsName, folded, wire, with_length}
use Rattle.zone_rdata.specs.Fields.OneString.{string_at}
use Rattle.zone_rdata.specs.Fields.Strings.{AreStrings, strings_of}
use Rattle.zone_rdata.specs.Strings.{IsString}

-- octets that begin with a name, in any letter case
pub record BeginsWithSent (octets : List ℕ) (labels : Labels) (rest : List ℕ) : Type 0 where
  pub is_name : IsName labels
  pub sent : Labels
  pub folds : folded sent ≡ labels
  pub parts : octets ≡ wire sent ++ rest

-- octets that begin with a string after its length
pub record BeginsWithString (octets : List ℕ) : Type 0 where
  pub some : 0 < length octets
  pub held : IsString (string_at octets)
  pub front : take (length (with_length (string_at octets))) octets ≡ with_length (string_at octets)

-- octets that are strings, each after its length
pub record HoldsStrings (octets : List ℕ) : Type 0 where
  pub each : AllByRecursion IsString (strings_of octets)
  pub whole : flat_map with_length (strings_of octets) ≡ octets

-- octets that are one string or more, each after its length
abbrev pub AreWithLengths : List ℕ → Type 0
AreWithLengths octets =
    (many : List (List ℕ)) × AreStrings many × (octets ≡ flat_map with_length many)
