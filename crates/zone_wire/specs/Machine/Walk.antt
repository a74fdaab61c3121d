-- The walk along a name in a message, spot by spot, to its root or its first fault: the list that
-- `IsWalk` holds of.
use Rattle.std.specs.Prelude.{ℕ, zero, suc, ◌+◌, List, [], ◌∷◌, length, slice_index, nat_le, nat_lt, nat_eq, ◌||◌, if◌then◌else◌, Option, Some, None}
use Rattle.zone_wire.specs.Name.{target_at}
use Rattle.zone_wire.specs.Walk.{Standing, at_root, at_label, at_pointer, at_fault, Visit, visit}
use Rattle.zone_rdata.specs.declared.fault.Fault.{Fault}
use Rattle.zone_rdata.specs.declared.fault.Fault.TheVariants.{ShortMessage, NameTooLong, ReservedLabel, BadPointer, TooManyPointers}

-- A spot that is come to: its offset, the offset at which the run of labels began that stands
-- there, and how many pointers and octets of labels, each with its length, stand before it.
pub record Spot : Type 0 where
  pub offset : ℕ
  pub bound : ℕ
  pub pointers : ℕ
  pub octets : ℕ

-- where the walk of the name at an offset begins
abbrev pub outset : ℕ → Spot
outset offset = record { offset = offset; bound = offset; pointers = 0; octets = 0 }

abbrev pub past_label : Spot → ℕ → Spot
past_label spot size =
    record spot { offset = spot.offset + 1 + size; octets = spot.octets + 1 + size }

abbrev pub past_pointer : Spot → ℕ → Spot
past_pointer spot target =
    record spot { offset = target; bound = target; pointers = spot.pointers + 1 }

-- a label: its octets lie in the message, and with it and the root the name has at most 255 octets
abbrev pub label_of : List ℕ → Spot → ℕ → Standing
label_of message spot size =
    if nat_le (length message) (spot.offset + size) then at_fault ShortMessage
    else if nat_lt 255 (spot.octets + size + 2) then at_fault NameTooLong
    else at_label size

-- a pointer: its two octets lie in the message, its target is past the header and below the bound,
-- and it is at most the 128th
abbrev pub pointer_of : List ℕ → Spot → ℕ → Standing
pointer_of message spot target =
    if nat_le (length message) (spot.offset + 1) then at_fault ShortMessage
    else if nat_lt target 12 || nat_le spot.bound target then at_fault BadPointer
    else if nat_le 128 spot.pointers then at_fault TooManyPointers
    else at_pointer target

-- what stands at a spot that lies in the message, by its first octet
abbrev pub standing_at : List ℕ → Spot → Standing
standing_at message spot =
    let first : ℕ = slice_index message spot.offset in
    if nat_eq first 0 then at_root
    else if nat_le first 63 then label_of message spot first
    else if nat_lt first 192 then at_fault ReservedLabel
    else pointer_of message spot (target_at message spot.offset)

-- what stands at a spot, none where it doesn't lie in the message
unfoldable pub standing_in : List ℕ → Spot → Option Standing
standing_in message spot =
    if nat_le (length message) spot.offset then None else Some (standing_at message spot)

-- a walk from a spot on, where `rest` walks on
abbrev pub walk_on : (Spot → List Visit) → Spot → Option Standing → List Visit
walk_on rest spot None = []
walk_on rest spot (Some at_root) = visit spot.offset at_root ∷ []
walk_on rest spot (Some (at_label size)) =
    visit spot.offset (at_label size) ∷ rest (past_label spot size)
walk_on rest spot (Some (at_pointer target)) =
    visit spot.offset (at_pointer target) ∷ rest (past_pointer spot target)
walk_on rest spot (Some (at_fault fault)) = visit spot.offset (at_fault fault) ∷ []

-- at most n spots
unfoldable pub walk_by : ℕ → List ℕ → Spot → List Visit
walk_by zero message spot = []
walk_by (suc n) message spot = walk_on (walk_by n message) spot (standing_in message spot)

-- The spots of the name at an offset. 256 are enough for each walk: 127 labels, 128 pointers and
-- the last spot.
unfoldable pub walk : List ℕ → ℕ → List Visit
walk message offset = walk_by 256 message (outset offset)

-- the fault with which a walk ends, none where it ends at the root
unfoldable pub ending : List Visit → Option Fault
ending [] = Some ShortMessage
ending (last ∷ visits) =
    elim last.standing [
      | at_root ↦ None
      | at_label size ↦ ending visits
      | at_pointer target ↦ ending visits
      | at_fault fault ↦ Some fault
    ]
