-- The origin that an entry of a master file inherits, with the letters of the file (RFC 1035 5.1).
use Rattle.std.specs.Prelude.{◌≡◌, List, [], ◌∷◌, Option, Some, None, MatchOption}
use Rattle.zone_name.specs.Common.{Labels}
use Rattle.zone_name.specs.Spelling.{SpellsCased}
use Rattle.zone_rdata.specs.Item.{RawItem, bare}
use Rattle.zone_text.specs.Entries.{Entry}
use Rattle.zone_text.specs.Statements.{Statement, sets_origin, statement_of}

-- the origin after `$ORIGIN` and these items, under the one before it: one bare item names it
abbrev pub NamesOrigin : Labels → List RawItem → Labels → Type 0
NamesOrigin above (bare text ∷ []) name = SpellsCased (Some above) text name
NamesOrigin above items name = ⊥

-- the items after `$ORIGIN`
abbrev pub origin_items : Statement → Option (List RawItem)
origin_items (sets_origin items) = Some items
origin_items form = None

-- The origin after entries, the latest first, with its letters as they stand: that of the latest
-- `$ORIGIN`, read under the origin before it, else the one handed in. After a `$ORIGIN` that names
-- none there is none.
abbrev pub IsCasedOrigin : Labels → List Entry → Labels → Type 0
IsCasedOrigin origin [] name = name ≡ origin
IsCasedOrigin origin (entry ∷ before) name =
    MatchOption (origin_items (statement_of entry)) (IsCasedOrigin origin before name)
    (λ items. (above : Labels) × IsCasedOrigin origin before above × NamesOrigin above items name)
