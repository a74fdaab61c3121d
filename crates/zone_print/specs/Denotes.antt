-- Which zone an input denotes.
use Rattle.std.specs.Prelude.{ℕ, ◌≤◌, List, length}
use Rattle.zone_name.specs.Common.{Labels}
use Rattle.zone_rdata.specs.declared.record.Placed.{Placed}
use Rattle.zone_text.specs.File.{FileStates}
use Rattle.zone_set.specs.Refusal.{records_of}
use Rattle.zone_set.specs.Zone.{Zone, IsZone, SameRecords}
use Rattle.zone_print.specs.Canonical.{canon, text_limit}

-- the records are those of the zone, as a set, and its canonical text is within the limit
pub record MakesZone (placed : List Placed) (z : Zone) : Type 0 where
  pub zone : IsZone z
  pub same : SameRecords z.records (records_of placed)
  pub text_short : length (canon z) ≤ text_limit

-- octets no longer than the limit denote the zone that the records make which they state
pub record DenotesBy (States : List Placed → Type 0) (octets : List ℕ) (z : Zone) : Type 0 where
  pub short : length octets ≤ text_limit
  pub placed : List Placed
  pub states : States placed
  pub makes : MakesZone placed z

-- a master file with its origin denotes a zone
abbrev pub Denotes : Labels → List ℕ → Zone → Type 0
Denotes origin octets z = DenotesBy (FileStates origin octets) octets z
