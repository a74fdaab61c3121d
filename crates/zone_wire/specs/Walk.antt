-- The walk along a name in a message: its places, and what stands there (RFC 1035 3.1, 4.1.4).
use Rattle.std.specs.Prelude.{◌≡◌, ℕ, ◌+◌, ◌<◌, ◌≤◌, ◌⊎◌, List, [], ◌∷◌, length, slice_index, Option, Some, None}
use Rattle.zone_wire.specs.Name.{target_at, IsLabelAt, IsPointerAt}
use Rattle.zone_wire.specs.Unless.{Unless, NoFault}
use Rattle.zone_rdata.specs.declared.fault.Fault.{Fault}
use Rattle.zone_rdata.specs.declared.fault.Fault.TheVariants.{ShortMessage, NameTooLong, ReservedLabel, BadPointer, TooManyPointers}

-- what stands at a place of a walk: the root, a label of so many octets, a pointer to a target, or
-- a fault
pub data Standing : Type 0 where
  at_root : Standing
  at_label : ℕ → Standing
  at_pointer : ℕ → Standing
  at_fault : Fault → Standing

-- a place of a walk, and what stands there
pub record Visit : Type 0 where
  pub offset : ℕ
  pub standing : Standing

abbrev pub visit : ℕ → Standing → Visit
visit offset standing = record { offset = offset; standing = standing }

-- The fault at an offset that is come to, where a run of labels began at the bound, after so many
-- pointers and octets of labels, each with its length: a label or a pointer that isn't whole in the
-- message; a label with which, and the root, the name has more than 255 octets; a first octet of 64
-- to 191; a pointer to the header, or to the bound or after it; or the 129th pointer.
abbrev pub FaultHere : List ℕ → ℕ → ℕ → ℕ → ℕ → Fault → Type 0
FaultHere message offset bound pointers octets fault =
    let first = slice_index message offset in
    ((0 < first) × (first ≤ 63) × Unless (offset + first < length message) ShortMessage
    (Unless (octets + first + 2 ≤ 255) NameTooLong NoFault) fault)
    ⊎ (((64 ≤ first) × (first < 192) × (fault ≡ ReservedLabel))
    ⊎ ((192 ≤ first) × Unless (offset + 1 < length message) ShortMessage
    (Unless ((12 ≤ target_at message offset) × (target_at message offset < bound)) BadPointer
    (Unless (pointers < 128) TooManyPointers NoFault)) fault))

-- The places of a walk from an offset on, the bound, the pointers and the octets of labels before
-- it known, and the fault with which it ends, or none: it ends at the root, at a fault, or before
-- an offset outside the message; after a label comes the place after it, and after a pointer the
-- one to which it leads.
pub data Walks (message : List ℕ) : ℕ → ℕ → ℕ → ℕ → List Visit → Option Fault → Type 0 where
  outside : {offset bound pointers octets : ℕ} → length message ≤ offset
      → Walks message offset bound pointers octets [] (Some ShortMessage)
  to_root : {offset bound pointers octets : ℕ} → offset < length message
      → slice_index message offset ≡ 0
      → Walks message offset bound pointers octets (visit offset at_root ∷ []) None
  to_fault : {offset bound pointers octets : ℕ} {fault : Fault}
      → FaultHere message offset bound pointers octets fault
      → Walks message offset bound pointers octets (visit offset (at_fault fault) ∷ [])
      (Some fault)
  over_label : {offset bound pointers octets size : ℕ} {visits : List Visit}
      {ending : Option Fault} → IsLabelAt message offset size → octets + size + 2 ≤ 255
      → Walks message (offset + 1 + size) bound pointers (octets + 1 + size) visits ending
      → Walks message offset bound pointers octets (visit offset (at_label size) ∷ visits) ending
  by_pointer : {offset bound pointers octets target : ℕ} {visits : List Visit}
      {ending : Option Fault} → IsPointerAt message offset bound target → pointers < 128
      → Walks message target target (pointers + 1) octets visits ending
      → Walks message offset bound pointers octets (visit offset (at_pointer target) ∷ visits)
      ending

-- the walk of the name at an offset
abbrev pub IsWalk : List ℕ → ℕ → List Visit → Option Fault → Type 0
IsWalk message start visits ending = Walks message start start 0 0 visits ending

-- the walk of the name at an offset ends with a fault
abbrev pub NameFault : List ℕ → ℕ → Fault → Type 0
NameFault message start fault = (visits : List Visit) × IsWalk message start visits (Some fault)

-- what holds of the places of each walk, and of the message
abbrev pub OfEachWalk : (List ℕ → List Visit → Type 0) → Type 0
OfEachWalk Holds =
    (message : List ℕ) (start : ℕ) (visits : List Visit) (ending : Option Fault)
    → IsWalk message start visits ending → Holds message visits
