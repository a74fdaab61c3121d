-- The first record of an input that can't stand with those before it (RFC 1035 5.2; RFC 2181 5.2;
-- the order of the faults is this project's choice).
use Rattle.std.specs.Prelude.{◌≡◌, List, ◌∷◌, ◌++◌, map}
use Rattle.zone_rdata.specs.Record.{Record}
use Rattle.zone_rdata.specs.declared.fault.Fault.{Fault}
use Rattle.zone_rdata.specs.declared.fault.Place.{Place}
use Rattle.zone_rdata.specs.declared.record.Placed.{Placed}
use Rattle.zone_set.specs.Builder.{Accepts, IsRefusedFor}

-- the records without their places
abbrev pub records_of : List Placed → List Record
records_of placed = map (λ p. p.rr) placed

-- each record may stand with all before it
abbrev pub AllAccepted : List Placed → Type 0
AllAccepted placed =
    (before others : List Placed) (p : Placed) → placed ≡ before ++ p ∷ others
    → Accepts (records_of before) p.rr

-- A record is refused at its place, and each one before it may stand with all before that.
pub record IsFirstRefused (placed : List Placed) (fault : Fault) (place : Place) : Type 0 where
  pub before : List Placed
  pub refused : Placed
  pub others : List Placed
  pub parts : placed ≡ before ++ refused ∷ others
  pub accepted : AllAccepted before
  pub why : IsRefusedFor (records_of before) refused.rr fault
  pub stands : place ≡ refused.place
