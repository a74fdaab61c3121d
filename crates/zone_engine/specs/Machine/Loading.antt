-- What the program holds of an input while it is fed: the records that were taken, or why the input
-- is refused.
use Rattle.std.specs.Prelude.{◌≡◌, ℕ, ◌≤◌, List, [], ◌++◌, length, Option, Some, None, IfSome, Result, false}
use Rattle.zone_name.specs.Common.{Octets, AreOctets}
use Rattle.zone_rdata.specs.FedSource.{Held}
use Rattle.zone_rdata.specs.RrSource.{Pending}
use Rattle.zone_rdata.specs.declared.fault.Fault.{Fault}
use Rattle.zone_rdata.specs.declared.fault.Place.{Place}
use Rattle.zone_rdata.specs.declared.fault.Stop.{Stop}
use Rattle.zone_rdata.specs.declared.record.Placed.{Placed}
use Rattle.zone_set.specs.Refusal.{AllAccepted, IsFirstRefused, records_of}
use Rattle.zone_set.specs.Zone.{Zone, IsZone, SameRecords}
use Rattle.zone_set.specs.ZoneList.{StopsSettling, Tells}
use Rattle.zone_print.specs.Device.{Device}
use Rattle.zone_engine.specs.Input.{Input, input_octets, InputReads}
use Rattle.zone_engine.specs.Machine.Fed.{StandsForInput}
use Rattle.zone_engine.specs.Machine.Input.{Decides, IsForm, ReadAs, input_of}
use Rattle.zone_engine.specs.Reading.{Reads}
use Rattle.zone_engine.specs.Refusal.{RefusesReading}

-- what refuses an input whatever follows what is decided of it: a record, or the fault after all of
-- them
pub data RefusesFront (placed : List Placed)
    (ending : Option (Fault × Place)) : Fault → Place → Type 0 where
  by_record : (fault : Fault) (place : Place) → IsFirstRefused placed fault place
      → RefusesFront placed ending fault place
  by_ending : (fault : Fault) (place : Place) → AllAccepted placed → ending ≡ Some (fault, place)
      → RefusesFront placed ending fault place

-- nothing is left to give, and no fault is decided
abbrev pub nothing_pending : Pending
nothing_pending = record { failed = false; records = []; ending = None }

-- What was taken of octets that were fed: what is listed tells of all records that the source gave,
-- with nothing left; or the input is refused by what a prefix of the octets decides
pub data IsLoaded (Stands : Octets → List Placed → Type 0) (form : ReadAs) (pending : Pending)
    (listed : List Placed) (refusal : Option (Fault × Place)) (octets : Octets) : Type 0 where
  all_taken : (given : List Placed) → refusal ≡ None → Stands octets given → Tells given listed
      → pending ≡ nothing_pending → IsLoaded Stands form pending listed refusal octets
  front_refuses : (front more : Octets) (placed : List Placed) (ending : Option (Fault × Place))
      (fault : Fault) (place : Place) → refusal ≡ Some (fault, place) → octets ≡ front ++ more
      → Decides (input_of form front) placed ending → RefusesFront placed ending fault place
      → IsLoaded Stands form pending listed refusal octets

-- the same of what a source holds, for a form
abbrev pub IsLoadedOf : {Kept : Type 0} → (ReadAs → Type 0)
    → (ReadAs → Octets → Kept → Octets → Type 0) → Pending → Held Kept → List Placed
    → Option (Fault × Place) → ReadAs → Octets → Type 0
IsLoadedOf IsOf Leave pending inside listed refusal form octets =
    IsLoaded (StandsForInput IsOf Leave form pending inside) form pending listed refusal octets

-- the first stop of an input of which these records were listed before another: one of them is
-- refused, or each may stand with all before it
pub data IsFirstStop (listed : List Placed) (other : Stop) : Stop → Type 0 where
  earlier : (stop : Stop) → StopsSettling listed stop → IsFirstStop listed other stop
  itself : AllAccepted listed → IsFirstStop listed other other

-- the records that the input is read as are those of the zone, whatever the length of its text
pub record ReadsZone (input : Input) (z : Zone) : Type 0 where
  pub placed : List Placed
  pub reads : InputReads input placed None
  pub same : SameRecords z.records (records_of placed)
  pub zone : IsZone z

-- what the input is read as is refused
pub record RefusesRead (input : Input) (fault : Fault) (place : Place) : Type 0 where
  pub placed : List Placed
  pub ending : Option (Fault × Place)
  pub reads : InputReads input placed ending
  pub refuses : RefusesReading placed ending fault place

-- the same of an input of octets that is no longer than a limit
pub record ReadsZoneWithin (limit : ℕ) (input : Input) (z : Zone) : Type 0 where
  pub each : AreOctets (input_octets input)
  pub short : length (input_octets input) ≤ limit
  pub reads : ReadsZone input z

-- a source was fed nothing, and has nothing to give
pub record BeginsAs {Kept : Type 0} (IsOf : ReadAs → Type 0)
    (Leave : ReadAs → Octets → Kept → Octets → Type 0) (pending : Pending) (held : Held Kept)
    (form : ReadAs) : Type 0 where
  pub stands : StandsForInput IsOf Leave form pending held [] []
  pub nothing : pending ≡ nothing_pending

-- the zone of octets that are known, as inputs of these forms
abbrev pub ReadsKnown : (ReadAs → Type 0) → ℕ → Option Octets → Zone → Type 0
ReadsKnown Of limit known z =
    (form : ReadAs) → Of form
    → IfSome known (λ octets. ReadsZoneWithin limit (input_of form octets) z)

-- what reading such octets as inputs of these forms leaves of the reader, by the answer
abbrev pub ReadsAs : {T : Type 0} → (ReadAs → Type 0) → ℕ → Device → Device → Result T Stop → Type 0
ReadsAs Of limit old new answer =
    (form : ReadAs) → IsForm form → Of form → Reads limit (input_of form) old new answer
