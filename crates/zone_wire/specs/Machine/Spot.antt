-- What the program holds of a spot of a walk.
use Rattle.std.specs.Prelude.{ℕ, Option, Some, None, Result, Ok, Err, ⊤}
use Rattle.zone_rdata.specs.Cause.{fault_for}
use Rattle.zone_rdata.specs.declared.cause.Cause.{Cause}
use Rattle.zone_rdata.specs.declared.fault.Fault.{Fault}
use Rattle.zone_wire.specs.Machine.Walk.{Spot}
use Rattle.zone_wire.specs.Walk.{Standing, at_root, at_label, at_pointer, at_fault}
use Rattle.zone_wire.specs.declared.spot.Spot as held
use Rattle.zone_wire.specs.declared.spot.Standing as found
use Rattle.zone_wire.specs.declared.spot.Standing.TheVariants.{Outside, Root, Label, Pointer, Bad}

-- the spot that is held
abbrev pub spot_of : held.Spot → Spot
spot_of spot =
    record {
      offset = spot.offset;
      bound = spot.bound;
      pointers = spot.pointers;
      octets = spot.octets;
    }

-- an offset, or the fault that is found
abbrev pub end_or_fault : Result ℕ Cause → Result ℕ Fault
end_or_fault (Ok end) = Ok end
end_or_fault (Err cause) = Err (fault_for cause)

-- an offset, or the fault that is found, with its offset
abbrev pub offset_or_fault : Result ℕ (Cause × ℕ) → Result ℕ (Fault × ℕ)
offset_or_fault (Ok end) = Ok end
offset_or_fault (Err e) = Err (fault_for e.0, e.1)

-- what is found at a spot, none outside the message
abbrev pub standing_of : found.Standing → Option Standing
standing_of Outside = None
standing_of Root = Some at_root
standing_of (Label size) = Some (at_label size)
standing_of (Pointer target) = Some (at_pointer target)
standing_of (Bad cause) = Some (at_fault (fault_for cause))

-- a spot lies in the message, and no fault stands there
abbrev pub IsSound : Option Standing → Type 0
IsSound None = ⊥
IsSound (Some (at_fault fault)) = ⊥
IsSound (Some standing) = ⊤

-- a look at a spot that lies in the message counts as one step
abbrev pub ticks_at : Option Standing → ℕ
ticks_at None = 0
ticks_at (Some standing) = 1
