-- The records of further types, as the code finds them.
use Rattle.std.specs.Prelude.{◌≡◌, ◌==◌, ◌↔◌, ℕ, ◌<◌, Bool, true, List, [], ◌∷◌, length, map, Some}
use Rattle.std.specs.List.{AllByRecursion, count_by}
use Rattle.zone_rdata.specs.Item as raw_item
use Rattle.zone_rdata.specs.Item.{RawItem, bare, raw, IsGeneric}
use Rattle.zone_text.specs.Entries.{Entry}
use Rattle.zone_text.specs.Records.{HasValue}
use Rattle.zone_text.specs.PartsIn.{ArePartsIn}
use Rattle.zone_text.specs.Stated.{directive_in}
use Rattle.zone_text.specs.Statements.{Parts, Statement, no_items, parts_after, parts_in}
use Rattle.zone_text.specs.declared.parts.RecordParts.{RecordParts}
use Rattle.zone_words.specs.Entry.{IsFurtherRecord, most_items}
use Rattle.type_data.specs.Table.{FurtherType, IsFurtherWord, further_of}
use Rattle.zone_words.specs.declared.entry_form.EntryForm.{EntryForm}
use Rattle.zone_words.specs.declared.entry_form.EntryForm.TheVariants as forms
use Rattle.zone_words.specs.declared.further.FurtherRecord.{FurtherRecord}

-- these are the parts of the record that a statement is
pub record HasParts (form : Statement) (read : RecordParts) : Type 0 where
  pub items : List RawItem
  pub split : parts_in form ≡ Some (parts_after [] items)
  pub are : ArePartsIn (parts_after [] items) read

-- what the code has of a statement
abbrev pub IsForm : Statement → EntryForm → Type 0
IsForm form forms.Blank = form ≡ no_items
IsForm form (forms.Directive read) = form ≡ directive_in read
IsForm form (forms.Record read) = HasParts form read

-- the parts of a record of a further type, where the class that holds is IN or isn't
pub record AreFurtherParts (parts : Parts) (is_internet : Bool) (word : List ℕ)
    (items : List RawItem) (further : FurtherType) : Type 0 where
  pub values : AllByRecursion HasValue parts.words
  pub from_type : parts.rest ≡ bare word ∷ items
  pub named : IsFurtherWord word further
  pub class : further.in_internet_alone ≡ true → is_internet ≡ true

-- they are those of this record
abbrev pub FindsParts : Parts → Bool → FurtherRecord → Type 0
FindsParts parts is_internet found =
    AreFurtherParts parts is_internet found.word.now (map raw found.items.now)
    (further_of found.further.now)

-- they are those of none
abbrev pub NoneIsFurther : Parts → Bool → Type 0
NoneIsFurther parts is_internet =
    (word : List ℕ) (items : List RawItem) (further : FurtherType)
    → AreFurtherParts parts is_internet word items further → ⊥

-- The entry is a record of a further type, of whose data's items these are kept: all, but for an
-- entry of very many.
pub record IsRecordOf (before : List Entry) (entry : Entry) (found : FurtherRecord) : Type 0 where
  pub all : List RawItem
  pub is : IsFurtherRecord before entry found.word.now all (further_of found.further.now)
  pub generic : IsGeneric all ↔ IsGeneric (map raw found.items.now)
  pub few : length entry.items < most_items → all ≡ map raw found.items.now

-- ---- line feeds in items: a bare one has none

abbrev pub quoted_feeds : RawItem → ℕ
quoted_feeds (raw_item.bare text) = 0
quoted_feeds (raw_item.quoted text) = count_by (λ c. c == 10) text

abbrev pub QuotesAreOnOneLine : List RawItem → Type 0
QuotesAreOnOneLine items = AllByRecursion (λ item. quoted_feeds item ≡ 0) items
