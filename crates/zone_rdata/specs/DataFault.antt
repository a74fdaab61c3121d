-- The first fault of items that state no record data (RFC 1035 5.1, 3.3; RFC 3597 5). The order of
-- faults is this project's own choice.
use Rattle.std.specs.Prelude.{◌≡◌, ℕ, ◌<◌, List, [], ◌∷◌, length, Option, Some, None, ◌⊎◌}
use Rattle.zone_name.specs.Common.{Labels}
use Rattle.zone_rdata.specs.declared.fault.Fault.{Fault}
use Rattle.zone_rdata.specs.declared.fault.Fault.TheVariants.{BadRdata, BadGeneric, RdataTooLong}
use Rattle.zone_rdata.specs.declared.field.Field.{Field}
use Rattle.zone_rdata.specs.Field.{FieldValue, IsFieldFault, SpellsField, octets_of, own_items, items_after}
use Rattle.zone_rdata.specs.Generic.{StatesGeneric, GenericFault}
use Rattle.zone_rdata.specs.Item.{RawItem, IsGeneric}
use Rattle.zone_rdata.specs.Layout.{layout}
use Rattle.zone_rdata.specs.Spelling.{SpellEach}
use Rattle.zone_rdata.specs.Uncompressed.{IsUncompressed}
use Rattle.zone_rdata.specs.Limits.{longest_data}

-- The first fault of items from the left: the items of the next field spell no value of it, or
-- after the last field an item is left over
abbrev pub FirstFieldFault : Labels → List Field → List RawItem → Fault → Type 0
FirstFieldFault origin [] [] fault = ⊥
FirstFieldFault origin [] (item ∷ items) fault = fault ≡ BadRdata
FirstFieldFault origin (f ∷ fields) items fault =
    IsFieldFault origin f (own_items f items) fault
    ⊎ ((value : FieldValue) × SpellsField origin f (own_items f items) value
    × FirstFieldFault origin fields (items_after f items) fault)

-- the first fault of items for fields, or all is spelled and takes too many octets
pub data IsWordsFault (origin : Labels) (fields : List Field)
    (items : List RawItem) : Fault → Type 0 where
  unspelt : (fault : Fault) → FirstFieldFault origin fields items fault
      → IsWordsFault origin fields items fault
  too_long : (values : List FieldValue) → SpellEach origin fields items values
      → longest_data < length (octets_of values) → IsWordsFault origin fields items RdataTooLong

-- why items in the generic form state no data for a layout, if there is one: the form's own fault,
-- or octets that are not exactly one value
pub data IsGenericDataFault (laid : Option (List Field))
    (items : List RawItem) : Fault → Type 0 where
  malformed : (fault : Fault) → GenericFault items fault → IsGenericDataFault laid items fault
  no_value : (fields : List Field) (stated : List ℕ) → laid ≡ Some fields
      → StatesGeneric items stated → ((octets : List ℕ) → IsUncompressed fields stated octets → ⊥)
      → IsGenericDataFault laid items BadRdata

-- The first fault of items for a layout, if there is one: in the generic form, in words, or of
-- words without a layout
pub data IsFaultFor (origin : Labels) (laid : Option (List Field))
    (items : List RawItem) : Fault → Type 0 where
  in_generic_form : (fault : Fault) → IsGenericDataFault laid items fault
      → IsFaultFor origin laid items fault
  in_words : (fields : List Field) (fault : Fault) → laid ≡ Some fields → (IsGeneric items → ⊥)
      → IsWordsFault origin fields items fault → IsFaultFor origin laid items fault
  opaque_words : laid ≡ None → (IsGeneric items → ⊥) → IsFaultFor origin laid items BadGeneric

-- the first fault of items that state no data of a class and type under an origin
pub record IsDataFault (origin : Labels) (class kind : ℕ) (items : List RawItem)
    (fault : Fault) : Type 0 where
  pub first : IsFaultFor origin (layout class kind) items fault
