-- What a builder of a zone takes and refuses (RFC 1035 5.2; one TTL in a set: RFC 2181 5.2; the
-- order of the faults is this project's choice). It holds a set of records, as its one ascending
-- list.
use Rattle.std.specs.Prelude.{◌≡◌, ◌≢◌, List, [], ◌∷◌, ◌++◌, Some, None, ◌⊎◌, ◌↔◌, true, false}
use Rattle.std.specs.declared.cmp.Ordering.TheVariants.{Less}
use Rattle.zone_name.specs.Common.{Labels}
use Rattle.zone_name.specs.Name.{IsWithin}
use Rattle.zone_name.specs.Order.{name_cmp}
use Rattle.zone_rdata.specs.Record.{Record}
use Rattle.zone_rdata.specs.RrSource.{Pending}
use Rattle.zone_rdata.specs.declared.record.Placed.{Placed}
use Rattle.zone_rdata.specs.declared.fault.Fault.{Fault}
use Rattle.zone_rdata.specs.declared.fault.Fault.TheVariants.{ClassMismatch, MultipleSoa, DifferingTtl, NoSoa, OutOfZone}
use Rattle.zone_rdata.specs.declared.fault.Place.{Place}
use Rattle.zone_rdata.specs.declared.fault.Place.TheVariants.{Whole}
use Rattle.zone_rdata.specs.declared.fault.Stop.{Stop}
use Rattle.zone_rdata.specs.declared.fault.Stop.TheVariants.{Refused, Memory}
use Rattle.zone_set.specs.Order.{Ascends}
use Rattle.zone_set.specs.Zone.{Has, InOneSet}

-- a record of another class is held
abbrev pub OtherClass : List Record → Record → Type 0
OtherClass held r = (s : Record) × Has held s × (s.class ≢ r.class)

-- two SOA records that differ in owner or data
abbrev pub AreTwoSoas : Record → Record → Type 0
AreTwoSoas s r = (r.kind ≡ 6) × (s.kind ≡ 6) × ((s.owner ≢ r.owner) ⊎ (s.octets ≢ r.octets))

-- the record is an SOA, and another is held
abbrev pub OtherSoa : List Record → Record → Type 0
OtherSoa held r = (s : Record) × Has held s × AreTwoSoas s r

-- a record of the same set with another TTL is held
abbrev pub OtherTtl : List Record → Record → Type 0
OtherTtl held r = (s : Record) × Has held s × InOneSet s r × (s.ttl ≢ r.ttl)

pub record Accepts (held : List Record) (r : Record) : Type 0 where
  pub one_class : OtherClass held r → ⊥
  pub one_soa : OtherSoa held r → ⊥
  pub one_ttl : OtherTtl held r → ⊥

-- the fault of a record that is refused: class, then SOA, then TTL
pub data IsRefusedFor (held : List Record) (r : Record) : Fault → Type 0 where
  class : OtherClass held r → IsRefusedFor held r ClassMismatch
  soa : (OtherClass held r → ⊥) → OtherSoa held r → IsRefusedFor held r MultipleSoa
  ttl : (OtherClass held r → ⊥) → (OtherSoa held r → ⊥) → OtherTtl held r
      → IsRefusedFor held r DifferingTtl

-- new has the records of old and this one
pub record Adds (old : List Record) (r : Record) (new : List Record) : Type 0 where
  pub ascend : Ascends new
  pub same : (s : Record) → Has new s ↔ ((s ≡ r) ⊎ Has old s)

-- why a record was handed back: want of memory, or its fault at its place
pub data StopsAdd (held : List Record) (p : Placed) : Stop → Type 0 where
  memory : StopsAdd held p Memory
  fault : (f : Fault) → IsRefusedFor held p.rr f → StopsAdd held p (Refused f p.place)

-- each of these records was taken, one after another
abbrev pub AddsEach : List Record → List Placed → List Record → Type 0
AddsEach old [] new = new ≡ old
AddsEach old (p ∷ placed) new =
    (next : List Record) × Accepts old p.rr × Adds old p.rr next × AddsEach next placed new

-- a source of which only these records are left
abbrev pub leaves : Pending → List Placed → Pending
leaves pending records = record pending { records = records }

-- all of a source was taken, no fault stands at its end, and none of its records is left
pub record TakesAll (old : List Record) (pending : Pending) (new : List Record)
    (rest : Pending) : Type 0 where
  pub works : pending.failed ≡ false
  pub whole : pending.ending ≡ None
  pub taken : AddsEach old pending.records new
  pub emptied : rest ≡ leaves pending []

-- why taking a source ended early, and what it has left: it had failed, and nothing of it is taken;
-- memory was refused for a record, or the record was, all before it are held, and the record is
-- dropped; or all are held, and a fault stands at its end
pub data StopsTaking (old : List Record) (pending : Pending) (new : List Record)
    (rest : Pending) : Stop → Type 0 where
  failure : pending.failed ≡ true → new ≡ old → rest ≡ pending
      → StopsTaking old pending new rest Memory
  memory : (taken others : List Placed) (p : Placed) → pending.failed ≡ false
      → pending.records ≡ taken ++ p ∷ others → AddsEach old taken new
      → rest ≡ leaves pending others → StopsTaking old pending new rest Memory
  refused : (taken others : List Placed) (p : Placed) (f : Fault) → pending.failed ≡ false
      → pending.records ≡ taken ++ p ∷ others → AddsEach old taken new
      → rest ≡ leaves pending others → IsRefusedFor new p.rr f
      → StopsTaking old pending new rest (Refused f p.place)
  ending : (e : Fault × Place) → pending.failed ≡ false → pending.ending ≡ Some e
      → AddsEach old pending.records new → rest ≡ leaves pending []
      → StopsTaking old pending new rest (Refused e.0 e.1)

-- no SOA is held
abbrev pub HasNoSoa : List Record → Type 0
HasNoSoa held = (r : Record) → Has held r → r.kind ≢ 6

-- the least owner that lies outside the zone
pub record IsLeastOutside (held : List Record) (owner : Labels) : Type 0 where
  pub soa : Record
  pub held_soa : Has held soa × (soa.kind ≡ 6)
  pub held_owner : (r : Record) × Has held r × (r.owner ≡ owner)
  pub outside : IsWithin owner soa.owner → ⊥
  pub least : (r : Record) → Has held r → (IsWithin r.owner soa.owner → ⊥) → r.owner ≢ owner
      → name_cmp owner r.owner ≡ Less

-- why the records held are no zone: no SOA, or an owner outside, of which the least is named
pub data StopsFinish (held : List Record) : Stop → Type 0 where
  no_soa : HasNoSoa held → StopsFinish held (Refused NoSoa Whole)
  outside : (owner : Labels) → IsLeastOutside held owner
      → StopsFinish held (Refused (OutOfZone owner) Whole)
