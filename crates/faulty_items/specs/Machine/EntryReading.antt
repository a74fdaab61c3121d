-- The parts of a record, as the code reads them.
use Rattle.std.specs.Prelude.{◌≡◌, ◌++◌, ℕ, List, [], MatchOption, Option}
use Rattle.zone_name.specs.Common.{Labels}
use Rattle.zone_rdata.specs.Item.{RawItem}
use Rattle.zone_rdata.specs.Words.{IsClassWord}
use Rattle.zone_text.specs.Records.{HasValue}
use Rattle.zone_text.specs.Statements.{class, parts_after}
use Rattle.type_data.specs.DataItem.{TouchingItem, items_of}
use Rattle.faulty_items.specs.EntryStop.{EntryStop, IsEndOf, PartsStop}

-- the class after this class word, if there is any and it has a value
abbrev pub IsClassIfValued : ℕ → Option (List ℕ) → ℕ → Type 0
IsClassIfValued held word number =
    MatchOption word (number ≡ held) (λ text. HasValue (class text) → IsClassWord text number)

-- ---- a record

-- the last of the items
abbrev pub EndIn : List RawItem → List RawItem → Type 0
EndIn items after = (front : List RawItem) × (items ≡ front ++ after)

-- a reading of a record stops there, from the items after its owner on
pub record RecordStops (origin : Labels) (held : ℕ) (all : List TouchingItem)
    (after : List RawItem) (stop : EntryStop) : Type 0 where
  pub rest : List TouchingItem
  pub end : IsEndOf all rest
  pub same : items_of rest ≡ (parts_after [] after).rest
  pub stops : PartsStop origin held (parts_after [] after).words rest stop
