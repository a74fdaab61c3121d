-- What becomes of an entry of a master file: it is written anew where its items state data of a
-- further type (RFC 1035 5.1, RFC 3597 5).
use Rattle.std.specs.Prelude.{◌≡◌, ℕ, ◌<◌, ◌≤◌, List, [], ◌∷◌, ◌++◌, length, codes, count_by, ◌==◌, Bool, true, false, Some}
use Rattle.std.specs.List.{AllByRecursion}
use Rattle.zone_name.specs.Common.{Labels}
use Rattle.zone_name.specs.Spelling.{Written, written_text}
use Rattle.zone_rdata.specs.Spelling.{RawItem, IsGeneric}
use Rattle.zone_rdata.specs.Spelling as raw
use Rattle.zone_rdata.specs.Table.{in_class}
use Rattle.zone_rdata.specs.Words.{IsMnemonic}
use Rattle.zone_text.specs.Entries.{Entry, entry_of}
use Rattle.zone_text.specs.Inherited.{HasClass}
use Rattle.zone_text.specs.Records.{HasValue}
use Rattle.zone_text.specs.Statements.{Parts, parts_in, statement_of}
use Rattle.zone_text.specs.Tokens.{Token, bare, quoted}
use Rattle.type_data.specs.Data.{StatesData, DataFails, in_order}
use Rattle.type_data.specs.DataItem.{TouchingItem, items_of}
use Rattle.zone_words.specs.Origin.{IsCasedOrigin}
use Rattle.zone_words.specs.Rewriting.{Outcome, Refused, IsRewritten}
use Rattle.type_data.specs.Table.{FurtherType, fields_in, further_names, IsFurtherWord}
use Rattle.zone_words.specs.Written.{Anew, renamed, in_octets, written}
use Rattle.type_data.specs.declared.fault.WordsFault.{WordsFault}
use Rattle.type_data.specs.declared.fault.WordsFault.TheVariants.{TooManyItems, LineFeedWithinQuotes}

-- the items of tokens, each with whether it directly follows another
abbrev pub touching_items : Bool → List Token → List TouchingItem
touching_items after [] = []
touching_items after (bare units ∷ tokens) =
    record { item = raw.bare (written_text units); touches = after } ∷ touching_items true tokens
touching_items after (quoted units ∷ tokens) =
    record { item = raw.quoted (written_text units); touches = after } ∷ touching_items true tokens
touching_items after (p ∷ tokens) = touching_items false tokens

-- The entry is a record of a further type, with the type's word and the items after it: its TTL and
-- its class, where it states them, have values, and its class is IN if the type is one of class IN
-- alone. Its owner isn't looked at.
pub record IsFurtherRecord (before : List Entry) (entry : Entry) (word : List ℕ)
    (items : List RawItem) (further : FurtherType) : Type 0 where
  pub parts : Parts
  pub split : parts_in (statement_of entry) ≡ Some parts
  pub values : AllByRecursion HasValue parts.words
  pub from_type : parts.rest ≡ raw.bare word ∷ items
  pub named : IsFurtherWord word further
  pub class : further.in_internet_alone ≡ true → HasClass before entry in_class

-- the record and the origin that holds there
pub record IsFurtherUnder (origin : Labels) (before : List Entry) (entry : Entry) (word : List ℕ)
    (items : List RawItem) (further : FurtherType) (above : Labels) : Type 0 where
  pub stated : IsFurtherRecord before entry word items further
  pub under : IsCasedOrigin origin before above

-- not all items of an entry of so many are kept
abbrev pub most_items : ℕ
most_items = 65552

-- how many line feeds stand in an item; only quotes enclose any
abbrev pub line_feeds_in : RawItem → ℕ
line_feeds_in (raw.bare text) = count_by (λ c. c == 10) text
line_feeds_in (raw.quoted text) = count_by (λ c. c == 10) text

-- no line feed of these items would be lost
abbrev pub AreOnOneLine : List RawItem → Type 0
AreOnOneLine items = AllByRecursion (λ item. line_feeds_in item ≡ 0) items

-- What the entry says: `TYPE` and its number in place of a mnemonic before the generic form, or the
-- octets that its words state. One of too many items says nothing, nor does one with a line feed
-- within quotes.
pub data SaysAnew (origin : Labels) (before : List Entry) (entry : Entry) (word : List ℕ)
    (data_items : List TouchingItem) : Anew → Type 0 where
  in_generic_form : (further : FurtherType) (above : Labels)
      → IsFurtherUnder origin before entry word (items_of data_items) further above
      → length entry.items < most_items → AreOnOneLine (items_of data_items)
      → IsGeneric (items_of data_items) → IsMnemonic further_names word further.number
      → SaysAnew origin before entry word data_items (renamed further.number)
  in_words : (further : FurtherType) (above : Labels) (octets : List ℕ)
      → IsFurtherUnder origin before entry word (items_of data_items) further above
      → length entry.items < most_items → AreOnOneLine (items_of data_items)
      → (IsGeneric (items_of data_items) → ⊥)
      → StatesData above (fields_in further.fields data_items) (in_order further.fields) data_items
      octets
      → SaysAnew origin before entry word data_items (in_octets further.number octets)

-- the refusal of an entry
abbrev pub refusal : Entry → FurtherType → List ℕ → WordsFault → Refused
refusal entry further field fault =
    record { line = entry.line; mnemonic = further.mnemonic; field = field; fault = fault }

-- What is wrong with an entry of a further type whose data isn't in the generic form: it has too
-- many items, a line feed within quotes, or else the first fault of its fields.
pub data IsRefused (origin : Labels) (before : List Entry) (entry : Entry) (word : List ℕ)
    (data_items : List TouchingItem) : Refused → Type 0 where
  too_many : (further : FurtherType) (above : Labels)
      → IsFurtherUnder origin before entry word (items_of data_items) further above
      → (IsGeneric (items_of data_items) → ⊥) → most_items ≤ length entry.items
      → IsRefused origin before entry word data_items
      (refusal entry further (codes "data") TooManyItems)
  on_more_lines : (further : FurtherType) (above : Labels)
      → IsFurtherUnder origin before entry word (items_of data_items) further above
      → (IsGeneric (items_of data_items) → ⊥) → length entry.items < most_items
      → (AreOnOneLine (items_of data_items) → ⊥)
      → IsRefused origin before entry word data_items
      (refusal entry further (codes "data") LineFeedWithinQuotes)
  no_data : (further : FurtherType) (above : Labels) (field : List ℕ) (fault : WordsFault)
      → IsFurtherUnder origin before entry word (items_of data_items) further above
      → (IsGeneric (items_of data_items) → ⊥) → length entry.items < most_items
      → AreOnOneLine (items_of data_items)
      → DataFails above (fields_in further.fields data_items) (in_order further.fields) data_items
      field fault
      → IsRefused origin before entry word data_items (refusal entry further field fault)

-- what the tokens of an entry say anew, from the type's word on: those before it, and those after
-- it
pub record TokensSay (origin : Labels) (before : List Entry) (line : ℕ) (tokens : List Token)
    (front back : List Token) (it : Anew) : Type 0 where
  pub word : List Written
  pub split : tokens ≡ front ++ bare word ∷ back
  pub says : SaysAnew origin before (entry_of line tokens) (written_text word)
      (touching_items true back) it

-- what is wrong with them
pub record TokensFail (origin : Labels) (before : List Entry) (line : ℕ) (tokens : List Token)
    (it : Refused) : Type 0 where
  pub front : List Token
  pub back : List Token
  pub word : List Written
  pub split : tokens ≡ front ++ bare word ∷ back
  pub fails : IsRefused origin before (entry_of line tokens) (written_text word)
      (touching_items true back) it

-- What becomes of an entry: it is written anew; or it stays and is told of; or it stays, since it
-- says nothing and nothing is wrong with its words.
pub data BecomesUnder (origin : Labels) (before : List Entry) (line : ℕ) (tokens : List Token)
    (outcome : Outcome) : Type 0 where
  anew : (front back : List Token) (it : Anew)
      → TokensSay origin before line tokens front back it
      → outcome ≡ record { written = front ++ written it back; told = [] }
      → BecomesUnder origin before line tokens outcome
  refused : (it : Refused) → TokensFail origin before line tokens it
      → outcome ≡ record { written = tokens; told = it ∷ [] }
      → BecomesUnder origin before line tokens outcome
  kept : ((front back : List Token) (it : Anew)
      → TokensSay origin before line tokens front back it → ⊥)
      → ((it : Refused) → TokensFail origin before line tokens it → ⊥)
      → outcome ≡ record { written = tokens; told = [] }
      → BecomesUnder origin before line tokens outcome

-- the file under an origin, what is written for it, and what is told of it
abbrev pub IsRewriting : Labels → List ℕ → List ℕ → List Refused → Type 0
IsRewriting origin octets new refusals = IsRewritten (BecomesUnder origin) octets new refusals
