-- The data that items state, field after field, and the first thing that is wrong where they state
-- none.
use Rattle.std.specs.Prelude.{◌≡◌, ◌≢◌, ℕ, ◌<◌, ◌≤◌, ◌⊎◌, List, [], ◌∷◌, ◌++◌, length, codes, ⊤}
use Rattle.std.specs.List.{flat_map}
use Rattle.zone_name.specs.Common.{Labels}
use Rattle.zone_rdata.specs.Limits.{longest_data}
use Rattle.type_data.specs.DataItem.{TouchingItem}
use Rattle.type_data.specs.Field.{FailsField, StatesField, items_after, own_items}
use Rattle.type_data.specs.Table.{Fields, NamedField, of_hip}
use Rattle.type_data.specs.declared.data.DataFailing.{DataFailing}
use Rattle.type_data.specs.declared.data.DataFailing.TheVariants as failings
use Rattle.type_data.specs.declared.fault.WordsFault.{WordsFault}
use Rattle.type_data.specs.declared.fault.WordsFault.TheVariants.{ItemsLeftOver, TooLong}

-- each field states its part of the octets
abbrev pub StateParts : Labels → List NamedField → List TouchingItem → List (List ℕ) → Type 0
StateParts origin [] items [] = ⊤
StateParts origin (f ∷ fields) items (part ∷ parts) =
    StatesField origin f.kind (own_items f.kind items) part
    × StateParts origin fields (items_after f.kind items) parts
StateParts origin fields items parts = ⊥

-- the items that fields leave
abbrev pub left_over : List NamedField → List TouchingItem → List TouchingItem
left_over [] items = items
left_over (f ∷ fields) items = left_over fields (items_after f.kind items)

abbrev pub joined : List (List ℕ) → List ℕ
joined parts = flat_map (λ part. part) parts

-- the parts of HIP: the lengths of the tag and of the key stand before both, and the algorithm
-- between the lengths (RFC 8005 5)
abbrev pub lengths_first : List (List ℕ) → List ℕ
lengths_first (algorithm ∷ (tag_length ∷ tag) ∷ (high ∷ low ∷ key) ∷ servers ∷ []) =
    tag_length ∷ algorithm ++ high ∷ low ∷ tag ++ key ++ servers
lengths_first parts = joined parts

-- the parts in the order of a type's octets
abbrev pub in_order : Fields → List (List ℕ) → List ℕ
in_order of_hip = lengths_first
in_order fields = joined

-- the items state octets under an origin, field after field, and none is left over; data has 65,535
-- octets at most (RFC 1035 3.2.1)
pub record StatesData (origin : Labels) (fields : List NamedField)
    (ordered : List (List ℕ) → List ℕ) (items : List TouchingItem) (octets : List ℕ)
    : Type 0 where
  pub parts : List (List ℕ)
  pub each : StateParts origin fields items parts
  pub whole : left_over fields items ≡ []
  pub value : octets ≡ ordered parts
  pub short : length octets ≤ longest_data

-- the first field fails, or it states octets and a later one is the first that fails
abbrev pub AFieldFails : Labels → List NamedField → List TouchingItem → List ℕ → WordsFault
    → Type 0
AFieldFails origin [] items name fault = ⊥
AFieldFails origin (f ∷ fields) items name fault =
    (FailsField origin f.kind (own_items f.kind items) fault × (name ≡ f.name))
    ⊎ ((part : List ℕ) × StatesField origin f.kind (own_items f.kind items) part
    × AFieldFails origin fields (items_after f.kind items) name fault)

-- the name of the last field
abbrev pub last_name : List NamedField → List ℕ
last_name [] = codes "data"
last_name (f ∷ []) = f.name
last_name (f ∷ g ∷ fields) = last_name (g ∷ fields)

-- The first thing that is wrong with the items, and the field by its name: from the left the first
-- field that states nothing, then items that are left over, then the length. The last two are told
-- of the last field.
pub data DataFails (origin : Labels) (fields : List NamedField)
    (ordered : List (List ℕ) → List ℕ) (items : List TouchingItem) (name : List ℕ)
    : WordsFault → Type 0 where
  at_field : (fault : WordsFault) → AFieldFails origin fields items name fault
      → DataFails origin fields ordered items name fault
  items_left : (parts : List (List ℕ)) → StateParts origin fields items parts
      → left_over fields items ≢ [] → name ≡ last_name fields
      → DataFails origin fields ordered items name ItemsLeftOver
  too_long : (parts : List (List ℕ)) → StateParts origin fields items parts
      → left_over fields items ≡ [] → longest_data < length (ordered parts)
      → name ≡ last_name fields → DataFails origin fields ordered items name TooLong

-- what is said of the field and the fault holds, where it is a fault and not want of memory
abbrev pub IfDataFault : (List ℕ → WordsFault → Type 0) → DataFailing → Type 0
IfDataFault Is (failings.Fault field fault) = Is field.now fault
IfDataFault Is failings.OutOfMemory = ⊤
