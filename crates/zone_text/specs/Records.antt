-- The record that an entry states (RFC 1035 5.1), and the entries that state none.
use Rattle.std.specs.Prelude.{◌≡◌, ℕ, List, [], ◌∷◌, Some, MatchOption, ◌⊎◌, ⊤}
use Rattle.std.specs.List.{AllByRecursion}
use Rattle.zone_name.specs.Common.{Labels}
use Rattle.zone_rdata.specs.Minimum.{minimum}
use Rattle.zone_rdata.specs.Number.{IsTime}
use Rattle.zone_rdata.specs.Record.{Data, Record, data_of, IsRecord}
use Rattle.zone_rdata.specs.Spelling.{RawItem, bare, States}
use Rattle.zone_rdata.specs.Words.{IsClass, IsClassWord, IsKind, IsKindWord}
use Rattle.zone_text.specs.Entries.{Entry}
use Rattle.zone_text.specs.Statements.{Statement, no_items, sets_origin, sets_ttl, statement_of, Word, ttl, class, Parts, parts_in}
use Rattle.zone_text.specs.Inherited.{IsOrigin, SpellsAfter, IsOwner, HasClass, stated_ttl, IsTtl}

-- a word before the type that has a value: a TTL of 31 bits, a class that can hold zone data
abbrev pub HasValue : Word → Type 0
HasValue (ttl text) = (seconds : ℕ) × IsTtl text seconds
HasValue (class text) = (number : ℕ) × (IsClassWord text number × IsClass number)

-- the entry is a record up to its data, of which these are the items, the entries before it known,
-- the latest first
pub record HasHead (origin : Labels) (before : List Entry) (entry : Entry) (name : Labels)
    (class_number type_number : ℕ) (items : List RawItem) : Type 0 where
  pub parts : Parts
  pub word : List ℕ
  pub split : parts_in (statement_of entry) ≡ Some parts
  pub owner : IsOwner origin before (statement_of entry) name
  pub words : AllByRecursion HasValue parts.words
  pub class : HasClass before entry class_number
  pub rest : parts.rest ≡ bare word ∷ items
  pub named : IsKindWord word type_number
  pub kind : IsKind type_number

-- the entry is a record up to its TTL: its items state the data under the origin at the entry
pub record HasContents (origin : Labels) (before : List Entry) (entry : Entry) (owner : Labels)
    (rdata : Data) : Type 0 where
  pub items : List RawItem
  pub above : Labels
  pub head : HasHead origin before entry owner rdata.class rdata.kind items
  pub under : IsOrigin origin before above
  pub states : States above rdata.class rdata.kind items rdata.octets

-- the entry is an SOA with this MINIMUM
abbrev pub StatesMinimum : Labels → List Entry → Entry → ℕ → Type 0
StatesMinimum origin before entry seconds =
    (owner : Labels) × (rdata : Data) × HasContents origin before entry owner rdata
    × (minimum rdata ≡ Some seconds)

-- the MINIMUM of the latest SOA
abbrev pub IsLastMinimum : Labels → List Entry → ℕ → Type 0
IsLastMinimum origin [] seconds = ⊥
IsLastMinimum origin (entry ∷ before) seconds =
    StatesMinimum origin before entry seconds
    ⊎ (((other : ℕ) → StatesMinimum origin before entry other → ⊥)
    × IsLastMinimum origin before seconds)

-- The TTL of a record entry, whatever its bound: a stated one, else the MINIMUM of the latest SOA,
-- which may be the entry. The MINIMUM as the last choice is this project's own: RFC 2308 4 asks for
-- `$TTL` in its place.
abbrev pub HasTtl : Labels → List Entry → Entry → ℕ → Type 0
HasTtl origin before entry seconds =
    MatchOption (stated_ttl before entry) (IsLastMinimum origin (entry ∷ before) seconds)
    (λ text. IsTime text seconds)

-- The entry states the record under the origin, the entries before it known, the latest first
pub record EntryStates (origin : Labels) (before : List Entry) (entry : Entry)
    (r : Record) : Type 0 where
  pub contents : HasContents origin before entry r.owner (data_of r)
  pub ttl : HasTtl origin before entry r.ttl
  pub fits : IsRecord r

-- a blank entry, `$ORIGIN` with a name, or `$TTL` with a time
abbrev pub StatesNothing : Labels → List Entry → Statement → Type 0
StatesNothing origin before no_items = ⊤
StatesNothing origin before (sets_origin (bare text ∷ [])) =
    (name : Labels) × SpellsAfter origin before text name
StatesNothing origin before (sets_ttl (bare text ∷ [])) = (seconds : ℕ) × IsTtl text seconds
StatesNothing origin before form = ⊥
