-- Where a reading of a further type's data stops, as the code holds it.
use Rattle.std.specs.Prelude.{◌≡◌, ℕ, List, Option, map, option_map}
use Rattle.zone_name.specs.Common.{Labels}
use Rattle.zone_rdata.specs.Item.{raw}
use Rattle.type_data.specs.DataItem.{TouchingItem, given}
use Rattle.type_data.specs.Table.{NamedField}
use Rattle.type_data.specs.declared.data_item.DataItem.{DataItem}
use Rattle.type_data.specs.declared.fault.WordsFault.{WordsFault}
use Rattle.faulty_items.specs.FurtherStop.{CanGoOn}
use Rattle.faulty_items.specs.StopsAt.{StopsAt}
use Rattle.faulty_items.specs.declared.further.FurtherStop as code

-- a reading of a field's own items stops there, and this is told of the field
pub record IsStopIn (origin : Labels) (f : NamedField) (own : List DataItem) (name : List ℕ)
    (fault : WordsFault) (stop : code.FurtherStop) : Type 0 where
  pub field_is : stop.field.now ≡ name
  pub fault_is : stop.fault ≡ fault
  pub found : Option DataItem
  pub stops : StopsAt (CanGoOn origin f) (map given own) (option_map given found)
  pub item_is : option_map raw stop.item
      ≡ option_map (λ (t : TouchingItem). t.item) (option_map given found)
