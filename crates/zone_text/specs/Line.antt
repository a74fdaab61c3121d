-- Lines of items, and entries that state every part of a record themselves (RFC 1035 5.1).
use Rattle.std.specs.Prelude.{◌≡◌, ◌≢◌, ℕ, List, [], ◌∷◌, false, Some, IfSome}
use Rattle.zone_name.specs.Common.{Labels}
use Rattle.zone_name.specs.Spelling.{Spells}
use Rattle.zone_rdata.specs.Number.{IsTime}
use Rattle.zone_rdata.specs.Record.{Record, IsRecord}
use Rattle.zone_rdata.specs.Spelling.{RawItem, States}
use Rattle.zone_rdata.specs.Spelling as raw
use Rattle.zone_rdata.specs.Words.{IsClassWord, IsKindWord}
use Rattle.zone_text.specs.Entries.{Entry}
use Rattle.zone_text.specs.Tokens.{Token, blank, bare, quoted, line_feed, is_blank, IsToken}

-- an item: bare or quoted
abbrev pub IsItem : Token → Type 0
IsItem (bare units) = IsToken (bare units)
IsItem (quoted units) = IsToken (quoted units)
IsItem p = ⊥

-- items parted by single spaces, and the line feed after them
abbrev pub line_of : List Token → List Token
line_of [] = line_feed ∷ []
line_of (item ∷ []) = item ∷ line_feed ∷ []
line_of (item ∷ next ∷ items) = item ∷ blank 32 ∷ line_of (next ∷ items)

-- The entry states every part of the record: it begins with neither a blank nor `$`, its owner is a
-- name under every origin, and TTL, class, type and data follow it, with names that are the same
-- under every origin
pub record StatesWhole (entry : Entry) (r : Record) : Type 0 where
  pub owner_text : List ℕ
  pub ttl_text : List ℕ
  pub class_word : List ℕ
  pub kind_word : List ℕ
  pub items : List RawItem
  pub begins : IfSome entry.first (λ c. (is_blank c ≡ false) × (c ≢ 36))
  pub whole : entry.items
      ≡ raw.bare owner_text ∷ raw.bare ttl_text ∷ raw.bare class_word ∷ raw.bare kind_word ∷ items
  pub owner : (above : Labels) → Spells (Some above) owner_text r.owner
  pub ttl : IsTime ttl_text r.ttl
  pub class : IsClassWord class_word r.class
  pub kind : IsKindWord kind_word r.kind
  pub rdata : (above : Labels) → States above r.class r.kind items r.octets
  pub fits : IsRecord r
