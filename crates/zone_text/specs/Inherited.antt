-- What an entry inherits from the entries before it (RFC 1035 5.1, RFC 2308 4). They come the
-- latest first.
use Rattle.std.specs.Prelude.{◌≡◌, ℕ, ◌≤◌, List, [], ◌∷◌, Option, Some, None, MatchOption, option_and_then}
use Rattle.std.specs.Option.{option_or}
use Rattle.zone_name.specs.Common.{Labels}
use Rattle.zone_name.specs.Spelling.{Spells}
use Rattle.zone_rdata.specs.Number.{IsTime}
use Rattle.zone_rdata.specs.Spelling.{bare}
use Rattle.zone_rdata.specs.Words.{IsClassWord}
use Rattle.zone_text.specs.Entries.{Entry}
use Rattle.zone_text.specs.Statements.{Statement, sets_origin, sets_ttl, owned, unowned, statement_of, Parts, parts_in, ttl_among, class_among}
use Rattle.zone_rdata.specs.Limits.{greatest_ttl}

-- what the latest of the entries states that states any
abbrev pub latest : (Statement → Option (List ℕ)) → List Entry → Option (List ℕ)
latest stated [] = None
latest stated (entry ∷ before) = option_or (stated (statement_of entry)) (latest stated before)

-- the texts that an entry states: the name of `$ORIGIN`, the time of `$TTL`, a record's owner, TTL
-- and class
abbrev pub origin_text : Statement → Option (List ℕ)
origin_text (sets_origin (bare text ∷ [])) = Some text
origin_text form = None

abbrev pub default_ttl_text : Statement → Option (List ℕ)
default_ttl_text (sets_ttl (bare text ∷ [])) = Some text
default_ttl_text form = None

abbrev pub owner_text : Statement → Option (List ℕ)
owner_text (owned (bare text) items) = Some text
owner_text form = None

abbrev pub ttl_text : Statement → Option (List ℕ)
ttl_text form = option_and_then (λ (parts : Parts). ttl_among parts.words) (parts_in form)

abbrev pub class_word : Statement → Option (List ℕ)
class_word form = option_and_then (λ (parts : Parts). class_among parts.words) (parts_in form)

-- The origin after entries: that of the latest `$ORIGIN`, read under the origin before it, else the
-- one handed in
abbrev pub IsOrigin : Labels → List Entry → Labels → Type 0
IsOrigin origin [] name = name ≡ origin
IsOrigin origin (entry ∷ before) name =
    MatchOption (origin_text (statement_of entry)) (IsOrigin origin before name)
    (λ text. (above : Labels)
    × (IsOrigin origin before above × Spells (Some above) text name))

-- the text spells the name where it stands after entries
abbrev pub SpellsAfter : Labels → List Entry → List ℕ → Labels → Type 0
SpellsAfter origin before text name =
    (above : Labels) × (IsOrigin origin before above × Spells (Some above) text name)

-- the owner of the latest record entry that states one, read under the origin of that entry
abbrev pub IsLastOwner : Labels → List Entry → Labels → Type 0
IsLastOwner origin [] name = ⊥
IsLastOwner origin (entry ∷ before) name =
    MatchOption (owner_text (statement_of entry)) (IsLastOwner origin before name)
    (λ text. SpellsAfter origin before text name)

-- the owner of a record entry: its own, or the last one stated where it begins with a blank
abbrev pub IsOwner : Labels → List Entry → Statement → Labels → Type 0
IsOwner origin before (owned (bare text) items) name = SpellsAfter origin before text name
IsOwner origin before (unowned items) name = IsLastOwner origin before name
IsOwner origin before form name = ⊥

-- The class of a record entry: the latest stated in it or before it, else IN. IN is this project's
-- choice where RFC 1035 5.1 leaves it open.
abbrev pub HasClass : List Entry → Entry → ℕ → Type 0
HasClass before entry class =
    MatchOption (latest class_word (entry ∷ before)) (class ≡ 1) (λ text. IsClassWord text class)

-- the text of a record entry's TTL: its own, else that of the latest `$TTL`, else the latest that a
-- record states
abbrev pub stated_ttl : List Entry → Entry → Option (List ℕ)
stated_ttl before entry =
    option_or (ttl_text (statement_of entry))
    (option_or (latest default_ttl_text before) (latest ttl_text before))

-- a time that a TTL may be (RFC 2181 8)
pub record IsTtl (text : List ℕ) (seconds : ℕ) : Type 0 where
  pub time : IsTime text seconds
  pub short : seconds ≤ greatest_ttl
