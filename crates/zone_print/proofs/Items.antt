-- The line of a record as a line of items of a master file.
use Rattle.zone_print.proofs.Common.{common_steps, ◌≡◌, ◌≢◌, ℕ, ◌<◌, false, List, [], ◌∷◌, ◌++◌, length, map, decimal, arith, rules, IfSome, flat_map, AllByRecursion, join_with_byte, length-map, name_text, Record, IsRecord, data_of, data_items, written_item, class_text, kind_text, entry_of, item_of, IsItem, line_of, Token, text, is_blank, line, slice_get, RawItem}
use Rattle.zone_name.proofs.Texts.Bare.{bare_name}
use Rattle.zone_rdata.specs.Spelling as raw
use Rattle.zone_rdata.proofs.Texts.PrintedWords.{class_bare, kind_bare}
use Rattle.zone_rdata.proofs.Texts.Standing.{IsPrintedItem, bare_decimal}
use Rattle.zone_rdata.proofs.Texts.TextItems.{data_some, data_stands}
use Rattle.zone_text.proofs.Tokens.StandingItems.{BeginsOwner, tokens_of, text_begins}
use Rattle.zone_print.proofs.Lines.{line_parts}

-- A printed line as a line of items: owner, TTL, class, type and the items of the data. It begins
-- with neither a blank nor `$`
pub record LineItems (r : Record) : Type 0 where
  pub tokens : List Token
  pub items : AllByRecursion IsItem tokens
  pub printed : text (line_of tokens) ≡ line r
  pub entries : flat_map item_of tokens ≡ raw.bare (name_text r.owner) ∷ raw.bare (decimal r.ttl) ∷ raw.bare (class_text r.class) ∷ raw.bare (kind_text r.class r.kind) ∷ data_items (data_of r)
  pub begins : IfSome (entry_of 1 (line_of tokens)).first (λ c. (is_blank c ≡ false) × (c ≢ 36))

-- ---- the parts of a line

parts_joined : (owner ttl class kind : List ℕ) (texts : List (List ℕ)) → 0 < length texts → join_with_byte 32 (owner ∷ ttl ∷ class ∷ kind ∷ texts) ++ 10 ∷ [] ≡ owner ++ 32 ∷ ttl ++ 32 ∷ class ++ 32 ∷ kind ++ 32 ∷ join_with_byte 32 texts ++ 10 ∷ []
parts_joined owner ttl class kind texts some = grind (arith, common_steps)

-- ---- the line of a record

-- the items of a record's line: owner, TTL, class, type and those of the data
abbrev record_items : Record → List RawItem
record_items r = raw.bare (name_text r.owner) ∷ raw.bare (decimal r.ttl) ∷ raw.bare (class_text r.class) ∷ raw.bare (kind_text r.class r.kind) ∷ data_items (data_of r)

-- each stands as it is printed
items_stand : (r : Record) → IsRecord r → AllByRecursion IsPrintedItem (record_items r)
items_stand r is = search (rules, bare_decimal, class_bare, kind_bare, bare_name, data_stands)

-- with single spaces between them and a line feed they are the line
items_joined : (r : Record) → IsRecord r → join_with_byte 32 (map written_item (record_items r)) ++ 10 ∷ [] ≡ line r
items_joined r is = search (rules, length-map, data_some, parts_joined)

line_begins : (r : Record) → IsRecord r → IfSome (slice_get (line r) 0) BeginsOwner
line_begins r is = grind (arith, line_parts, text_begins, bare_name)

pub line_items : (r : Record) → IsRecord r → LineItems r
line_items r is = grind (arith, tokens_of (record_items r) (items_stand r is), items_joined r is, line_begins r is)
