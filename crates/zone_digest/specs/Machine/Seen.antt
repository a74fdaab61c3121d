-- The hash algorithms of the ZONEMD records that were looked at.
use Rattle.std.specs.Prelude.{◌≡◌, Bool, true, List}
use Rattle.zone_name.specs.Common.{Octets}
use Rattle.zone_rdata.specs.Record.{Record}
use Rattle.zone_set.specs.Zone.{Has, Zone}
use Rattle.zone_digest.specs.Verdict.{Fields, HasFields, IsRepeated, number}
use Rattle.zone_digest.specs.declared.algorithm.Algorithm.{Algorithm}
use Rattle.zone_digest.specs.declared.algorithm.Algorithm.TheVariants.{Sha384, Sha512}
use Rattle.zone_digest.specs.declared.seen.Seen.{Seen}

-- data with scheme SIMPLE and this hash algorithm
pub record HasPair (octets : Octets) (a : Algorithm) : Type 0 where
  pub fields : Fields
  pub parts : HasFields octets fields
  pub scheme : fields.scheme ≡ 1
  pub algorithm : fields.algorithm ≡ number a

abbrev pub has_seen : Seen → Algorithm → Bool
has_seen seen Sha384 = seen.sha384
has_seen seen Sha512 = seen.sha512

-- each that was seen is that of one of the records
abbrev pub AreSeen : List Record → Seen → Type 0
AreSeen records seen =
    (a : Algorithm) → has_seen seen a ≡ true
    → (r : Record) × Has records r × HasPair r.octets a

-- each that was seen is that of another record than this one
abbrev pub IsSeenElsewhere : Zone → Record → Seen → Type 0
IsSeenElsewhere z r seen =
    (a : Algorithm) → has_seen seen a ≡ true → (f : Fields) → f.scheme ≡ 1
    → f.algorithm ≡ number a → IsRepeated z r f
