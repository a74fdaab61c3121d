-- The items of an entry as they stand in a master file (RFC 1035 5.1).
use Rattle.std.specs.Prelude.{◌≡◌, ℕ, List, [], ◌∷◌}
use Rattle.zone_rdata.specs.declared.item.Item.{Item}
use Rattle.zone_rdata.specs.declared.item.Item.TheVariants.{Bare, Quoted}

-- an item as it stands in the file, without the quotes of a quoted one
pub data RawItem : Type 0 where
  bare : List ℕ → RawItem
  quoted : List ℕ → RawItem

abbrev pub raw : Item → RawItem
raw (Bare text) = bare text.now
raw (Quoted text) = quoted text.now

-- the mark of the generic form, `\#` (RFC 3597 5)
abbrev pub generic_mark : RawItem
generic_mark = bare (92 ∷ 35 ∷ [])

-- the first item is the mark of the generic form
abbrev pub IsGeneric : List RawItem → Type 0
IsGeneric items = (rest : List RawItem) × (items ≡ generic_mark ∷ rest)
