-- Why an input is refused, and where: the first fault of a file (RFC 1035 5) or of a transfer (RFC
-- 5936 2.2). The order of faults is this project's choice.
use Rattle.std.specs.Prelude.{◌≡◌, ℕ, ◌<◌, ◌≤◌, List, length, Option, Some, None}
use Rattle.zone_rdata.specs.declared.fault.Fault.{Fault}
use Rattle.zone_rdata.specs.declared.fault.Fault.TheVariants.{ZoneTooLarge, InputTooLong}
use Rattle.zone_rdata.specs.declared.fault.Place.{Place}
use Rattle.zone_rdata.specs.declared.fault.Place.TheVariants.{Whole}
use Rattle.zone_rdata.specs.declared.fault.Stop.{Stop}
use Rattle.zone_rdata.specs.declared.fault.Stop.TheVariants.{Refused}
use Rattle.zone_rdata.specs.declared.record.Placed.{Placed}
use Rattle.zone_set.specs.Builder.{StopsFinish}
use Rattle.zone_set.specs.Refusal.{AllAccepted, IsFirstRefused, records_of}
use Rattle.zone_set.specs.Zone.{Zone, IsZone, SameRecords}
use Rattle.zone_print.specs.Canonical.{canon, text_limit}
use Rattle.zone_engine.specs.Input.{Input, input_octets, InputReads}

-- What refuses a reading, the records of an input in their order and the fault after them: the
-- first record that can't stand with those before it; else the fault of reading; else that no SOA
-- is there, or an owner outside the zone, of which the least is named; else that the canonical text
-- of the zone is too long.
pub data RefusesReading (placed : List Placed)
    (ending : Option (Fault × Place)) : Fault → Place → Type 0 where
  refused : (fault : Fault) (place : Place) → IsFirstRefused placed fault place
      → RefusesReading placed ending fault place
  unread : (fault : Fault) (place : Place) → AllAccepted placed → ending ≡ Some (fault, place)
      → RefusesReading placed ending fault place
  unfinished : (fault : Fault) (place : Place) → AllAccepted placed → ending ≡ None
      → StopsFinish (records_of placed) (Refused fault place)
      → RefusesReading placed ending fault place
  too_large : (z : Zone) → ending ≡ None → IsZone z → SameRecords z.records (records_of placed)
      → text_limit < length (canon z) → RefusesReading placed ending ZoneTooLarge Whole

-- why an input is refused, and where: it is longer than a limit, or else its reading is refused (by
-- the limit of canonical texts, which is the same for all)
pub data IsRefusalWithin (limit : ℕ) (input : Input) : Fault → Place → Type 0 where
  too_long : limit < length (input_octets input) → IsRefusalWithin limit input InputTooLong Whole
  reading : (placed : List Placed) (ending : Option (Fault × Place)) (fault : Fault) (place : Place)
      → length (input_octets input) ≤ limit → InputReads input placed ending
      → RefusesReading placed ending fault place → IsRefusalWithin limit input fault place

abbrev pub IsRefusal : Input → Fault → Place → Type 0
IsRefusal = IsRefusalWithin text_limit

-- the input is refused
abbrev pub IsRefused : Input → Type 0
IsRefused input = (fault : Fault) × (place : Place) × IsRefusal input fault place

-- the fault and place of a refusal are so
abbrev pub IfRefused : Stop → (Fault → Place → Type 0) → Type 0
IfRefused (Refused fault place) P = P fault place
IfRefused stop P = Unit {0}
