-- What normalising an input answers on its zone (this project's own).
use Rattle.std.specs.Prelude.{◌≡◌, ◌-◌, ◌^◌, ℕ, List, length, min}
use Rattle.zone_print.specs.Canonical.{canon}
use Rattle.zone_set.specs.Zone.{Zone}
use Rattle.zonenorm_c.specs.declared.answer.Answer.{Answer}

-- the canonical text of the zone, and the number of its records
pub record IsCanonical (z : Zone) (text : List ℕ) (answer : Answer) : Type 0 where
  pub canonical : text ≡ canon z
  pub status : answer.status ≡ 0
  pub count : answer.count ≡ min (length z.records) (2 ^ 64 - 1)
