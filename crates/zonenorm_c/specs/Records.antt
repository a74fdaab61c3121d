-- What is answered on the records of an input (this project's own).
use Rattle.std.specs.List.{flat_map}
use Rattle.std.specs.Prelude.{◌≡◌, ◌-◌, ◌^◌, ℕ, List, length, min}
use Rattle.zone_digest.specs.Digest.{record_octets}
use Rattle.zone_set.specs.Zone.{Zone}
use Rattle.zonenorm_c.specs.declared.answer.Answer.{Answer}

-- the octets of the zone's records in canonical order, and their number
pub record AreRecords (z : Zone) (text : List ℕ) (answer : Answer) : Type 0 where
  pub octets : text ≡ flat_map record_octets z.records
  pub status : answer.status ≡ 0
  pub count : answer.count ≡ min (length z.records) (2 ^ 64 - 1)
