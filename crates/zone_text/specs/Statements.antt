-- What an entry says (RFC 1035 5.1; `$TTL` RFC 2308 4): nothing, a directive or a record, and a
-- record's parts.
use Rattle.std.specs.Prelude.{ℕ, List, [], ◌∷◌, ◌++◌, codes, take, drop, ◌==◌, ◌&&◌, ◌||◌, if◌then◌else◌, Bool, false, bytes_eq, Option, Some, None, is_some}
use Rattle.std.specs.List.{list_all}
use Rattle.zone_name.specs.Name.{folded_label}
use Rattle.zone_name.specs.Spelling.{is_digit}
use Rattle.zone_rdata.specs.Spelling.{RawItem, bare, quoted}
use Rattle.zone_rdata.specs.Table.{classes, number_among}
use Rattle.zone_text.specs.Tokens.{is_blank}
use Rattle.zone_text.specs.Entries.{Entry}

-- no items; a directive with what follows its word; or a record with what follows its owner, stated
-- or omitted
pub data Statement : Type 0 where
  no_items : Statement
  sets_origin : List RawItem → Statement
  sets_ttl : List RawItem → Statement
  includes : Statement
  unknown : Statement
  owned : RawItem → List RawItem → Statement
  unowned : List RawItem → Statement

-- a directive's word, in any letter case
abbrev pub directive : RawItem → List RawItem → Statement
directive (quoted text) items = unknown
directive (bare text) items =
    if bytes_eq (folded_label text) (codes "$origin") then sets_origin items
    else if bytes_eq (folded_label text) (codes "$ttl") then sets_ttl items
    else if bytes_eq (folded_label text) (codes "$include") then includes
    else unknown

-- `$` as the first octet begins a directive, and a blank omits the owner
abbrev pub statement_by : Option ℕ → List RawItem → Statement
statement_by first [] = no_items
statement_by None (item ∷ items) = owned item items
statement_by (Some c) (item ∷ items) =
    if c == 36 then directive item items
    else if is_blank c then unowned (item ∷ items)
    else owned item items

abbrev pub statement_of : Entry → Statement
statement_of entry = statement_by entry.first entry.items

abbrev pub begins_with_digit : List ℕ → Bool
begins_with_digit [] = false
begins_with_digit (c ∷ text) = is_digit c

-- one digit or more
abbrev pub are_digits : List ℕ → Bool
are_digits text = begins_with_digit text && list_all is_digit text

-- the mnemonic of a class, or CLASS and digits (RFC 3597 5), in any letter case
abbrev pub is_class_word : List ℕ → Bool
is_class_word text =
    is_some (number_among classes text)
    || (bytes_eq (take 5 (folded_label text)) (codes "class") && are_digits (drop 5 text))

-- a word before the type
pub data Word : Type 0 where
  ttl : List ℕ → Word
  class : List ℕ → Word

abbrev pub ttl_among : List Word → Option (List ℕ)
ttl_among [] = None
ttl_among (ttl text ∷ words) = Some text
ttl_among (class text ∷ words) = ttl_among words

abbrev pub class_among : List Word → Option (List ℕ)
class_among [] = None
class_among (ttl text ∷ words) = class_among words
class_among (class text ∷ words) = Some text

abbrev pub unless_stated : Option (List ℕ) → Word → Option Word
unless_stated None word = Some word
unless_stated (Some text) word = None

-- The word that an item is after others: a bare item that begins with a digit is a TTL if none
-- stood before, a bare class word is a class if none stood before. Any other item stands at the
-- type's place.
abbrev pub word_after : List Word → RawItem → Option Word
word_after before (quoted text) = None
word_after before (bare text) =
    if begins_with_digit text then unless_stated (ttl_among before) (ttl text)
    else if is_class_word text then unless_stated (class_among before) (class text)
    else None

-- the parts of a record after its owner: `[TTL] [class]` in either order, and the items from the
-- type on
pub record Parts : Type 0 where
  pub words : List Word
  pub rest : List RawItem

abbrev pub parts_after : List Word → List RawItem → Parts
parts_after words [] = record { words = words; rest = [] }
parts_after words (item ∷ items) =
    elim (word_after words item) [
      | None ↦ record { words = words; rest = item ∷ items }
      | Some word ↦ parts_after (words ++ word ∷ []) items
    ]

-- the parts of a record
abbrev pub parts_in : Statement → Option Parts
parts_in (owned owner items) = Some (parts_after [] items)
parts_in (unowned items) = Some (parts_after [] items)
parts_in form = None
