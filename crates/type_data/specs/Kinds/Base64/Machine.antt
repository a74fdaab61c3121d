-- How the code takes the groups of a text in base64 apart.
use Rattle.base64.specs.Engines.{standard}
use Rattle.base64.specs.GeneralPurpose.{encode_of}
use Rattle.std.specs.Prelude.{◌≡◌, ℕ, List, ◌++◌, ◌%◌, length}
use Rattle.zone_name.specs.Common.{AreOctets}

-- the octets of the whole groups ahead of the rest come after those that are there
pub record HasGroups (text rest old new : List ℕ) : Type 0 where
  pub octets : List ℕ
  pub each : AreOctets octets
  pub whole : length octets % 3 ≡ 0
  pub parted : text ≡ encode_of standard octets ++ rest
  pub written : new ≡ old ++ octets
