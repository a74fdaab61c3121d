-- What explaining an input answers and writes (this project's own).
use Rattle.std.specs.Prelude.{◌≡◌, ℕ, ◌-◌, ◌^◌, List, length, min, Option, IfSome}
use Rattle.zone_rdata.specs.declared.fault.Fault.{Fault}
use Rattle.zone_rdata.specs.declared.fault.Place.{Place}
use Rattle.zone_rdata.specs.declared.fault.Stop.{Stop}
use Rattle.zone_rdata.specs.declared.fault.Stop.TheVariants.{Refused, Read, Write, Memory}
use Rattle.zone_set.specs.Zone.{Zone}
use Rattle.zone_print.specs.Device.{Device, Fails, IsLeft}
use Rattle.zone_engine.specs.Input.{Input, InputDenotes}
use Rattle.zone_engine.specs.Refusal.{IsRefusal}
use Rattle.zone_engine.specs.Telling.{records_line, refusal_line, WritesLine, WritesPartOfLine}

-- known octets denote a zone of so many records
abbrev pub HaveRecords : (List ℕ → Input) → Option (List ℕ) → ℕ → Type 0
HaveRecords form known count =
    IfSome known
    (λ octets. (z : Zone) × InputDenotes (form octets) z
    × (count ≡ min (length z.records) (2 ^ 64 - 1)))

-- known octets are refused for this fault at this place
abbrev pub AreRefused : (List ℕ → Input) → Option (List ℕ) → Fault → Place → Type 0
AreRefused form known fault place =
    IfSome known (λ octets. IsRefusal (form octets) fault place)

-- the line that explains known octets, with its status: 0 and how many records their zone has, or 3
-- and why they are refused
pub data IsExplanation (form : List ℕ → Input) (known : Option (List ℕ)) : List ℕ → ℕ → Type 0 where
  accepted : (count : ℕ) → HaveRecords form known count
      → IsExplanation form known (records_line count) 0
  refused : (fault : Fault) (place : Place) → AreRefused form known fault place
      → IsExplanation form known (refusal_line fault place) 3

-- the line on the octets of a reader, where they are known, was written whole
abbrev pub Explains : (List ℕ → Input) → Device → Device → Device → ℕ → Type 0
Explains form reader old new status =
    (line : List ℕ) × IsExplanation form reader.octets line status × WritesLine line old new

-- What explaining them leaves of the writer where it stops: it is as it was where reading failed or
-- memory was refused, and holds a proper prefix of the line where it failed. A refusal is no stop.
abbrev pub StopsExplain : (List ℕ → Input) → Device → Device → Device → Stop → Type 0
StopsExplain form reader old new (Refused fault place) = ⊥
StopsExplain form reader old new Read = IsLeft old new
StopsExplain form reader old new Write =
    (line : List ℕ) × (status : ℕ) × IsExplanation form reader.octets line status
    × WritesPartOfLine line old new × Fails old new
StopsExplain form reader old new Memory = IsLeft old new
