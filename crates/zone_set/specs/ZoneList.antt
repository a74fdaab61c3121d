-- What a list of the records of an input takes, in the order in which they come, and what it is
-- settled as (RFC 1035 5.2).
use Rattle.std.specs.Prelude.{◌≡◌, List, [], ◌∷◌, ◌++◌, Some, None, true, false}
use Rattle.zone_rdata.specs.Record.{Record}
use Rattle.zone_rdata.specs.RrSource.{Pending}
use Rattle.zone_rdata.specs.declared.record.Placed.{Placed}
use Rattle.zone_rdata.specs.declared.fault.Fault.{Fault}
use Rattle.zone_rdata.specs.declared.fault.Fault.TheVariants.{ClassMismatch}
use Rattle.zone_rdata.specs.declared.fault.Place.{Place}
use Rattle.zone_rdata.specs.declared.fault.Stop.{Stop}
use Rattle.zone_rdata.specs.declared.fault.Stop.TheVariants.{Refused, Memory}
use Rattle.zone_set.specs.Builder.{OtherClass, leaves}
use Rattle.zone_set.specs.Refusal.{AllAccepted, IsFirstRefused, records_of}
use Rattle.zone_set.specs.Zone.{SameRecords}

-- what is kept tells the same of what was given: the same records, and the same first refusal
pub record Tells (given kept : List Placed) : Type 0 where
  pub same : SameRecords (records_of kept) (records_of given)
  pub accepted : AllAccepted kept → AllAccepted given
  pub refused :
      (f : Fault) (place : Place) → IsFirstRefused kept f place → IsFirstRefused given f place

-- all of a source was listed, no fault stands at its end, and none of its records is left
pub record ListsAll (old : List Placed) (pending : Pending) (new : List Placed)
    (rest : Pending) : Type 0 where
  pub works : pending.failed ≡ false
  pub whole : pending.ending ≡ None
  pub listed : Tells (old ++ pending.records) new
  pub emptied : rest ≡ leaves pending []

-- why listing a source ended early, and what it has left: it had failed, and nothing of it is
-- listed; memory was refused for a record, or one of another class is listed, all before it are
-- listed, and the record is dropped; or all are listed, and a fault stands at its end
pub data StopsListing (old : List Placed) (pending : Pending) (new : List Placed)
    (rest : Pending) : Stop → Type 0 where
  failure : pending.failed ≡ true → Tells old new → rest ≡ pending
      → StopsListing old pending new rest Memory
  memory : (taken others : List Placed) (p : Placed) → pending.failed ≡ false
      → pending.records ≡ taken ++ p ∷ others → Tells (old ++ taken) new
      → rest ≡ leaves pending others → StopsListing old pending new rest Memory
  class : (taken others : List Placed) (p : Placed) → pending.failed ≡ false
      → pending.records ≡ taken ++ p ∷ others → Tells (old ++ taken) new
      → rest ≡ leaves pending others → OtherClass (records_of new) p.rr
      → StopsListing old pending new rest (Refused ClassMismatch p.place)
  ending : (e : Fault × Place) → pending.failed ≡ false → pending.ending ≡ Some e
      → Tells (old ++ pending.records) new → rest ≡ leaves pending []
      → StopsListing old pending new rest (Refused e.0 e.1)

-- each record may stand with all before it, and these are the same records
pub record IsSettledAs (placed : List Placed) (held : List Record) : Type 0 where
  pub accepted : AllAccepted placed
  pub same : SameRecords held (records_of placed)

-- why a list isn't settled: memory was refused, or a record is the first that is refused
pub data StopsSettling (placed : List Placed) : Stop → Type 0 where
  memory : StopsSettling placed Memory
  refused : (f : Fault) (place : Place) → IsFirstRefused placed f place
      → StopsSettling placed (Refused f place)
