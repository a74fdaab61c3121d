-- A record of a further type on one line of a master file, with its data in words and in the
-- generic form (RFC 1035 5.1, RFC 3597 5).
use Rattle.std.specs.Prelude.{◌≡◌, ◌≢◌, ◌+◌, ◌<◌, ℕ, List, [], ◌∷◌, ◌++◌, length, true, slice_get, IfSome, ⊤}
use Rattle.std.specs.List.{AllByRecursion}
use Rattle.zone_name.specs.Common.{Labels}
use Rattle.zone_name.specs.Spelling.{Written, written_text}
use Rattle.zone_rdata.specs.Item.{IsGeneric, RawItem}
use Rattle.zone_rdata.specs.Item as raw
use Rattle.zone_rdata.specs.Strings.{StandsInQuotes}
use Rattle.zone_rdata.specs.Words.{IsClass, IsClassWord}
use Rattle.zone_text.specs.Inherited.{IsTtl}
use Rattle.zone_text.specs.Tokens.{IsToken, bare, text}
use Rattle.type_data.specs.Data.{StatesData, in_order}
use Rattle.type_data.specs.DataItem.{TouchingItem, items_of}
use Rattle.zone_words.specs.Entry.{most_items}
use Rattle.type_data.specs.Parameters.Printed.{written_touching}
use Rattle.type_data.specs.StandingItem.{IsBareText, StandsBehind}
use Rattle.type_data.specs.Table.{Fields, FurtherType, fields_in}
use Rattle.zone_words.specs.Written.{generic_tokens}

-- Items that are the words of a type's data, and stand on a line as they are: they state the octets
-- under every origin, and no entry with them has too many items.
pub record AreWords (fields : Fields) (items : List TouchingItem) (octets : List ℕ) : Type 0 where
  pub states : (origin : Labels)
      → StatesData origin (fields_in fields items) (in_order fields) items octets
  pub stand : AllByRecursion StandsBehind items
  pub few : length items + 4 < most_items
  pub in_words : IsGeneric (items_of items) → ⊥

-- what stands before the type: the owner, the TTL and the class, each before a blank
pub record IsHead (head : List ℕ) (class : ℕ) : Type 0 where
  pub owner : List ℕ
  pub ttl : List ℕ
  pub word : List ℕ
  pub whole : head ≡ owner ++ 32 ∷ (ttl ++ 32 ∷ (word ++ 32 ∷ []))
  pub owner_stands : IsBareText owner
  pub no_directive : IfSome (slice_get owner 0) (λ c. c ≢ 36)
  pub ttl_stands : IsBareText ttl
  pub seconds : ℕ
  pub is_ttl : IsTtl ttl seconds
  pub word_stands : IsBareText word
  pub is_word : IsClassWord word class
  pub is_class : IsClass class

-- what stands before the type of a record that states no owner and no TTL: a blank, and the class
-- before a blank
pub record IsOwnerlessHead (head : List ℕ) (class : ℕ) : Type 0 where
  pub word : List ℕ
  pub whole : head ≡ 32 ∷ (word ++ 32 ∷ [])
  pub word_stands : IsBareText word
  pub is_word : IsClassWord word class
  pub is_class : IsClass class

-- the line of a record with its data in words
abbrev pub words_line : List ℕ → FurtherType → List TouchingItem → List ℕ
words_line head further items = head ++ (further.mnemonic ++ (written_touching items ++ 10 ∷ []))

-- the same with its data in the generic form
abbrev pub generic_line : List ℕ → FurtherType → List ℕ → List ℕ
generic_line head further octets =
    head ++ (text (generic_tokens further.number octets) ++ 10 ∷ [])
