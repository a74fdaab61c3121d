-- Where a reading of a record's data stops.
use Rattle.std.specs.Prelude.{ℕ, List, Option, option_map}
use Rattle.zone_rdata.specs.Item.{RawItem, raw}
use Rattle.faulty_items.specs.declared.stop.DataStop as code

-- the field by its name, and the item at fault, if there is one
pub record Stop : Type 0 where
  pub field : List ℕ
  pub item : Option RawItem

abbrev pub stop_at : List ℕ → Option RawItem → Stop
stop_at field item = record { field = field; item = item }

abbrev pub stop_of : code.DataStop → Stop
stop_of s = stop_at s.field.now (option_map raw s.item)
