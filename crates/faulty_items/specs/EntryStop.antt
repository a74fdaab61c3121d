-- Where a reading of an entry stops, from the left (RFC 1035 5.1): at its directive's item, its
-- owner, a word before its type, its type, or in its data.
use Rattle.std.specs.Prelude.{◌≡◌, ℕ, ◌≤◌, List, [], ◌∷◌, drop, length, true, codes, Option, Some, None, MatchOption, ⊤}
use Rattle.std.specs.List.{AllByRecursion}
use Rattle.zone_name.specs.Common.{Labels, NothingIs}
use Rattle.zone_name.specs.Name.{folded}
use Rattle.zone_name.specs.Spelling.{SpellsCased}
use Rattle.zone_rdata.specs.Item.{IsGeneric, RawItem, bare, quoted}
use Rattle.zone_rdata.specs.Table.{in_class}
use Rattle.zone_rdata.specs.Words.{IsClassWord, IsKind, IsKindWord, IsWordFault}
use Rattle.zone_rdata.specs.declared.fault.Fault.{Fault}
use Rattle.zone_text.specs.Records.{HasValue}
use Rattle.zone_text.specs.Statements.{Statement, Word, class, class_among, includes, no_items, owned, parts_after, sets_origin, sets_ttl, statement_by, ttl, ttl_among, unknown, unowned}
use Rattle.type_data.specs.DataItem.{TouchingItem, items_of}
use Rattle.type_data.specs.Table.{FurtherType, IsFurtherWord, fields_in}
use Rattle.zone_words.specs.Entry.{most_items}
use Rattle.faulty_items.specs.FurtherStop.{FurtherFieldsStop, FurtherStop}
use Rattle.faulty_items.specs.GenericStop.{GenericStops}
use Rattle.faulty_items.specs.LaidOutStop.{LaidOutStops}
use Rattle.faulty_items.specs.Stop.{Stop}

-- before the data, at this item or where one is missing; or in the data of a type by its number
pub data EntryStop : Type 0 where
  before_data : Option RawItem → EntryStop
  in_data : ℕ → Stop → EntryStop
  in_further_data : ℕ → FurtherStop → EntryStop

-- ---- the data

-- the word names a further type that records of the class can have
pub record NamesFurther (number : ℕ) (word : List ℕ) (row : FurtherType) : Type 0 where
  pub named : IsFurtherWord word row
  pub class : row.in_internet_alone ≡ true → number ≡ in_class

-- Where a reading stops from a record's type on, in a class and under an origin: at a word of no
-- type, or in the data, which is that of a further type or of another.
pub data TypeStop (origin : Labels) (number : ℕ) (word : List ℕ) (items : List TouchingItem)
    : EntryStop → Type 0 where
  no_type : (fault : Fault) → NothingIs (NamesFurther number word) → IsWordFault word fault
      → TypeStop origin number word items (before_data (Some (bare word)))
  in_laid_out : (kind : ℕ) (stop : Stop) → NothingIs (NamesFurther number word)
      → IsKindWord word kind → IsKind kind
      → LaidOutStops (folded origin) number kind (items_of items) stop
      → TypeStop origin number word items (in_data kind stop)
  in_generic_form : (row : FurtherType) (stop : Stop) → NamesFurther number word row
      → IsGeneric (items_of items) → GenericStops (items_of items) stop
      → TypeStop origin number word items (in_data row.number stop)
  in_further : (row : FurtherType) (stop : FurtherStop) → NamesFurther number word row
      → (IsGeneric (items_of items) → ⊥)
      → FurtherFieldsStop origin (codes "data") (fields_in row.fields items) items stop
      → TypeStop origin number word items (in_further_data row.number stop)

-- from the type's place on: a quoted item, or the type's word
abbrev pub FirstStops
    : Labels → ℕ → RawItem → List TouchingItem → EntryStop → Type 0
FirstStops origin number (quoted text) items stop = stop ≡ before_data (Some (quoted text))
FirstStops origin number (bare word) items stop = TypeStop origin number word items stop

-- or nothing
abbrev pub RestStops : Labels → ℕ → List TouchingItem → EntryStop → Type 0
RestStops origin number [] stop = stop ≡ before_data None
RestStops origin number (t ∷ items) stop = FirstStops origin number t.item items stop

-- ---- the parts of a record

-- the class of the record: its own, or the one that holds before it
abbrev pub IsClassOf : ℕ → List Word → ℕ → Type 0
IsClassOf held words number =
    MatchOption (class_among words) (number ≡ held) (λ text. IsClassWord text number)

-- a word before the type that has no value
pub data IsValueless (words : List Word) (text : List ℕ) : Type 0 where
  no_ttl : ttl_among words ≡ Some text → (HasValue (ttl text) → ⊥) → IsValueless words text
  no_class : class_among words ≡ Some text → (HasValue (class text) → ⊥) → IsValueless words text

-- Where a reading of a record's parts after its owner stops, under an origin and a class that hold:
-- at a word that has no value, at the type's place, or in the data.
pub data PartsStop (origin : Labels) (held : ℕ) (words : List Word) (rest : List TouchingItem)
    (stop : EntryStop) : Type 0 where
  at_word : (text : List ℕ) → IsValueless words text → stop ≡ before_data (Some (bare text))
      → PartsStop origin held words rest stop
  after_words : (number : ℕ) → AllByRecursion HasValue words → IsClassOf held words number
      → RestStops origin number rest stop → PartsStop origin held words rest stop

-- ---- the entry

-- a quoted owner, or one that is no name
abbrev pub IsNoOwner : Labels → RawItem → Type 0
IsNoOwner origin (quoted text) = ⊤
IsNoOwner origin (bare text) = NothingIs (SpellsCased (Some origin) text)

-- the items after a record's owner, which is a name, or omitted
abbrev pub AreAfterOwner : Labels → Statement → List RawItem → Type 0
AreAfterOwner origin (owned owner after) items = (IsNoOwner origin owner → ⊥) × (items ≡ after)
AreAfterOwner origin (unowned all) items = items ≡ all
AreAfterOwner origin form items = ⊥

-- the item at fault among those after the word of `$ORIGIN` or `$TTL`, each of which needs one: the
-- second if there is one, else the first
abbrev pub directive_item : List RawItem → Option RawItem
directive_item [] = None
directive_item (item ∷ []) = Some item
directive_item (item ∷ second ∷ items) = Some second

-- the item of an entry that is no record
abbrev pub ItemOfNone : Statement → Option RawItem → Type 0
ItemOfNone no_items found = found ≡ None
ItemOfNone includes found = found ≡ None
ItemOfNone unknown found = found ≡ None
ItemOfNone (sets_origin after) found = found ≡ directive_item after
ItemOfNone (sets_ttl after) found = found ≡ directive_item after
ItemOfNone form found = ⊥

-- the last of the items
abbrev pub IsEndOf : List TouchingItem → List TouchingItem → Type 0
IsEndOf items rest = (n : ℕ) × (rest ≡ drop n items)

-- Where a reading of an entry's items stops, under an origin and a class that hold before it. Of an
-- entry of very many no item is told.
pub data EntryStops (origin : Labels) (held : ℕ) (first : Option ℕ) (items : List TouchingItem)
    (stop : EntryStop) : Type 0 where
  too_many : most_items ≤ length items → stop ≡ before_data None
      → EntryStops origin held first items stop
  in_no_record : (found : Option RawItem)
      → ItemOfNone (statement_by first (items_of items)) found → stop ≡ before_data found
      → EntryStops origin held first items stop
  at_owner : (owner : RawItem) (after : List RawItem)
      → statement_by first (items_of items) ≡ owned owner after → IsNoOwner origin owner
      → stop ≡ before_data (Some owner) → EntryStops origin held first items stop
  in_record : (after : List RawItem) (rest : List TouchingItem)
      → AreAfterOwner origin (statement_by first (items_of items)) after → IsEndOf items rest
      → items_of rest ≡ (parts_after [] after).rest
      → PartsStop origin held (parts_after [] after).words rest stop
      → EntryStops origin held first items stop
