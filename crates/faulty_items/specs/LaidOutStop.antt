-- Where a reading of data that zone_rdata lays out stops (RFC 1035 3.3, 5.1; RFC 3597 5).
use Rattle.std.specs.Prelude.{◌≡◌, ◌⊎◌, ℕ, suc, List, [], ◌∷◌, codes, Option, Some, None}
use Rattle.zone_name.specs.Common.{Labels}
use Rattle.zone_rdata.specs.Field.{FieldValue, SpellsField, items_after, own_items}
use Rattle.zone_rdata.specs.Item.{RawItem, IsGeneric}
use Rattle.zone_rdata.specs.Layout.{layout}
use Rattle.zone_rdata.specs.declared.field.Field.{Field}
use Rattle.faulty_items.specs.FieldNames.{field_name}
use Rattle.faulty_items.specs.GenericStop.{GenericStops}
use Rattle.faulty_items.specs.Stop.{Stop, stop_at}
use Rattle.faulty_items.specs.StopsAt.{StopsAt}

-- the items spell a value of the field
abbrev pub SpellAValue : Labels → Field → List RawItem → Type 0
SpellAValue origin f items = (value : FieldValue) × SpellsField origin f items value

-- the first item, if there is one
abbrev pub first_item : List RawItem → Option RawItem
first_item [] = None
first_item (item ∷ items) = Some item

-- The first field whose own items spell no value of it, by its name; or the first item after all
-- fields, which is told of the last. Where no field fails and no item is left over, the last field
-- and no item: the data as a whole has too many octets, or nothing is wrong.
abbrev pub FieldsStop
    : Labels → (ℕ → List ℕ) → ℕ → List ℕ → List Field → List RawItem → Stop → Type 0
FieldsStop origin name_at place last [] items stop = stop ≡ stop_at last (first_item items)
FieldsStop origin name_at place last (f ∷ fields) items stop =
    ((SpellAValue origin f (own_items f items) → ⊥)
    × ((found : Option RawItem) × StopsAt (SpellAValue origin f) (own_items f items) found
    × (stop ≡ stop_at (name_at place) found)))
    ⊎ (SpellAValue origin f (own_items f items)
    × FieldsStop origin name_at (suc place) (name_at place) fields (items_after f items) stop)

-- the reading of items as data of a layout, if there is one, in presentation format or in the
-- generic form
pub data StopsFor (origin : Labels) (kind : ℕ) (laid : Option (List Field)) (items : List RawItem)
    (stop : Stop) : Type 0 where
  in_generic_form : IsGeneric items → GenericStops items stop → StopsFor origin kind laid items stop
  in_words : (fields : List Field) → laid ≡ Some fields → (IsGeneric items → ⊥)
      → FieldsStop origin (field_name kind) 0 (codes "data") fields items stop
      → StopsFor origin kind laid items stop
  opaque_words : laid ≡ None → (IsGeneric items → ⊥)
      → stop ≡ stop_at (codes "data") (first_item items) → StopsFor origin kind laid items stop

-- the reading of items as data of a class and type under an origin
abbrev pub LaidOutStops : Labels → ℕ → ℕ → List RawItem → Stop → Type 0
LaidOutStops origin class kind items stop =
    StopsFor origin kind (layout class kind) items stop
