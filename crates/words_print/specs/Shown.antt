-- What is shown for the lines of a text: the data of records of further types in words in place of
-- the generic form (RFC 3597 5).
use Rattle.std.specs.Prelude.{◌≡◌, ◌≢◌, ◌≤◌, ◌⊎◌, ℕ, List, [], ◌∷◌, ◌++◌, length, true, IsSome, Some, ⊤}
use Rattle.std.specs.List.{AllByRecursion, flat_map}
use Rattle.zone_name.specs.Common.{AreOctets, Labels}
use Rattle.zone_print.specs.Laws.{EndsWithItsFeed, HasNoFeed}
use Rattle.zone_rdata.specs.Table.{in_class}
use Rattle.zone_rdata.specs.Words.{IsClass, IsClassWord}
use Rattle.zone_text.specs.Entries.{entry_of, item_of}
use Rattle.zone_text.specs.FirstEntry.{IsOneEntry}
use Rattle.zone_text.specs.Inherited.{class_word}
use Rattle.zone_text.specs.Statements.{statement_of}
use Rattle.zone_text.specs.Tokens.{Token, text}
use Rattle.type_data.specs.Data.{joined}
use Rattle.type_data.specs.DataItem.{TouchingItem}
use Rattle.zone_words.specs.Entry.{IsRewriting, most_items}
use Rattle.type_data.specs.Parameters.Printed.{written_touching}
use Rattle.type_data.specs.PrintedData.{HasNoWords, PrintsData}
use Rattle.type_data.specs.Table.{FurtherType, further_type}
use Rattle.zone_words.specs.Written.{generic_tokens}

-- the octets are one record of a master file, which states its class, and the line feed that ends
-- it (RFC 1035 5.1)
pub record StatesItsClass (octets : List ℕ) : Type 0 where
  pub tokens : List Token
  pub one : IsOneEntry octets tokens
  pub class : IsSome (class_word (statement_of (entry_of 1 tokens)))

-- an origin that isn't the root: `x.`
abbrev pub another_origin : Labels
another_origin = (120 ∷ []) ∷ []

-- A record that states its class, in words: its rewriting is the record that was there, under the
-- root and under another origin too, so that no name in it is relative.
pub record IsRecordInWords (old new : List ℕ) : Type 0 where
  pub states : StatesItsClass new
  pub under_root : IsRewriting [] new old []
  pub under_another : IsRewriting another_origin new old []

-- the line feed that ends a line, or nothing, as at the end of a text
abbrev pub IsLineEnd : List ℕ → Type 0
IsLineEnd end = (end ≡ []) ⊎ (end ≡ 10 ∷ [])

-- nothing, or what ends with a blank or a tab
abbrev pub IsAtAWord : List ℕ → Type 0
IsAtAWord ahead = (ahead ≡ []) ⊎ ((front : List ℕ) × (c : ℕ) × ((c ≡ 32) ⊎ (c ≡ 9))
    × (ahead ≡ front ++ c ∷ []))

-- What stands before the word of a type: a class word and a blank, at the beginning or after white
-- space.
pub record EndsWithClass (front : List ℕ) (class : ℕ) : Type 0 where
  pub ahead : List ℕ
  pub word : List ℕ
  pub whole : front ≡ ahead ++ word ++ 32 ∷ []
  pub parted : IsAtAWord ahead
  pub named : IsClassWord word class
  pub is : IsClass class

-- A line that ends with a record of a further type in the generic form, in a class that has the type:
-- all before the type, the type, the octets, and the line feed, if it has one.
pub record EndsWithData (line front : List ℕ) (further : FurtherType) (octets end : List ℕ) : Type 0
  where
    pub class : ℕ
    pub before : EndsWithClass front class
    pub row : further_type further.number ≡ Some further
    pub has_type : further.in_internet_alone ≡ true → class ≡ in_class
    pub each : AreOctets octets
    pub whole : line ≡ front ++ text (generic_tokens further.number octets) ++ end
    pub ends : IsLineEnd end

-- the same line with the type's mnemonic and items
abbrev pub with_words : List ℕ → FurtherType → List TouchingItem → List ℕ → List ℕ
with_words front further items end =
    front ++ further.mnemonic ++ written_touching items ++ end

-- Where the line is one record that states its class, what is shown is that record: so the type and
-- the data at its end are its own, and not, say, strings of another record.
abbrev pub Fits : List ℕ → List ℕ → Type 0
Fits line shown = StatesItsClass line → IsRecordInWords line shown

-- the line is one entry that has more items than a record has
pub record HasTooManyItems (line : List ℕ) : Type 0 where
  pub tokens : List Token
  pub one : IsOneEntry line tokens
  pub many : most_items ≤ length (flat_map item_of tokens)

-- What is shown for a line. Where it ends with data of a further type, all before the type stays, and
-- the type gets its mnemonic and the data the words that are printed for its octets; also behind
-- other text, as in a difference of two texts. It stays where it ends with no such data, where no
-- items state the octets, and where it is a record of which that is not the data.
pub data IsShownLine (line shown : List ℕ) : Type 0 where
  gets_words : (front : List ℕ) (further : FurtherType) (octets end : List ℕ)
      (items : List TouchingItem) → EndsWithData line front further octets end
      → PrintsData further.fields items octets → Fits line (with_words front further items end)
      → shown ≡ with_words front further items end → IsShownLine line shown
  no_data : ((front : List ℕ) (further : FurtherType) (octets end : List ℕ)
      → EndsWithData line front further octets end → ⊥) → shown ≡ line → IsShownLine line shown
  no_words : (front : List ℕ) (further : FurtherType) (octets end : List ℕ)
      → EndsWithData line front further octets end → HasNoWords further.fields octets
      → shown ≡ line → IsShownLine line shown
  of_another : (front : List ℕ) (further : FurtherType) (octets end : List ℕ)
      (items : List TouchingItem) → EndsWithData line front further octets end
      → PrintsData further.fields items octets → StatesItsClass line
      → (IsRecordInWords line (with_words front further items end) → ⊥) → shown ≡ line
      → IsShownLine line shown
  too_many_items : HasTooManyItems line → shown ≡ line → IsShownLine line shown

-- line for line
abbrev pub EachIsShown : List (List ℕ) → List (List ℕ) → Type 0
EachIsShown [] [] = ⊤
EachIsShown (line ∷ lines) (shown ∷ others) = IsShownLine line shown × EachIsShown lines others
EachIsShown lines shown = ⊥

-- octets are lines, each with its line feed, and these are shown for them
pub record AreShown (octets shown : List ℕ) : Type 0 where
  pub lines : List (List ℕ)
  pub ends : AllByRecursion EndsWithItsFeed lines
  pub whole : octets ≡ joined lines
  pub others : List (List ℕ)
  pub each : EachIsShown lines others
  pub shown_is : shown ≡ joined others

-- a text and what is shown for it: its lines, one by one, the last perhaps without a line feed
pub data IsShownText (octets shown : List ℕ) : Type 0 where
  ended : AreShown octets shown → IsShownText octets shown
  unended : (done last front back : List ℕ) → octets ≡ done ++ last → shown ≡ front ++ back
      → AreShown done front → HasNoFeed last → last ≢ [] → IsShownLine last back
      → IsShownText octets shown

-- the line of one record that states its class, with no words of further types: it is its own
-- rewriting
pub record IsRecordLine (line : List ℕ) : Type 0 where
  pub ends : EndsWithItsFeed line
  pub states : StatesItsClass line
  pub own : IsRewriting [] line line []
