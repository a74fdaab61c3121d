-- The items of a record's data as they stand in a master file (RFC 1035 5.1).
use Rattle.std.specs.Prelude.{Bool, List, map}
use Rattle.zone_rdata.specs.Spelling.{RawItem, raw}
use Rattle.type_data.specs.declared.data_item.DataItem.{DataItem}

-- an item, and whether it directly follows another: `alpn="h2"` is two that touch
pub record TouchingItem : Type 0 where
  pub item : RawItem
  pub touches : Bool

abbrev pub given : DataItem → TouchingItem
given d = record { item = raw d.item; touches = d.touches }

-- the item alone
abbrev pub raw_item : DataItem → RawItem
raw_item d = raw d.item

abbrev pub items_of : List TouchingItem → List RawItem
items_of given_items = map (λ (d : TouchingItem). d.item) given_items
