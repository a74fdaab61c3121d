-- The first fault of an entry that states neither a record nor nothing (RFC 1035 5.1; RFC 2308 4).
-- The faults of its octets come before these and are those of a text that breaks. The order of
-- faults is this project's own choice.
use Rattle.std.specs.Prelude.{◌≡◌, ℕ, ◌<◌, List, [], ◌∷◌, Some, ◌⊎◌}
use Rattle.zone_name.specs.Common.{Labels}
use Rattle.zone_rdata.specs.DataFault.{IsDataFault}
use Rattle.zone_rdata.specs.Fields.Name.{IsNameFault}
use Rattle.zone_rdata.specs.Record.{Data}
use Rattle.zone_rdata.specs.Spelling.{RawItem, bare}
use Rattle.zone_rdata.specs.Words.{IsClass, IsClassWord, IsWordFault}
use Rattle.zone_rdata.specs.declared.fault.Fault.{Fault}
use Rattle.zone_rdata.specs.declared.fault.Fault.TheVariants.{IncludeDirective, UnknownDirective, BadDirective, NoOwner, NoTtl, BadTtl, BadClass, UnknownType}
use Rattle.zone_text.specs.Entries.{Entry}
use Rattle.zone_text.specs.Statements.{Statement, no_items, sets_origin, sets_ttl, includes, unknown, owned, unowned, statement_of, Word, ttl, class, Parts, parts_in}
use Rattle.zone_text.specs.Inherited.{IsOrigin, IsLastOwner, IsOwner, IsTtl}
use Rattle.zone_text.specs.Records.{HasValue, HasHead, HasContents, HasTtl}
use Rattle.zone_rdata.specs.Limits.{greatest_ttl}

-- a TTL that is no time of 31 bits, a class that holds no zone data
abbrev pub WordFault : Word → Fault → Type 0
WordFault (ttl text) fault = (fault ≡ BadTtl) × ((seconds : ℕ) → IsTtl text seconds → ⊥)
WordFault (class text) fault =
    (fault ≡ BadClass) × ((number : ℕ) × (IsClassWord text number × (IsClass number → ⊥)))

-- the first fault of a text that is no name where it stands after entries
abbrev pub IsNameFaultAfter : Labels → List Entry → List ℕ → Fault → Type 0
IsNameFaultAfter origin before text fault =
    (above : Labels) × (IsOrigin origin before above × IsNameFault above text fault)

-- The fault of a statement: a directive that isn't read, whose item has no value, or that has not
-- exactly one bare item; an owner that is no name, none stated so far, or a quoted one
abbrev pub StatementFault : Labels → List Entry → Statement → Fault → Type 0
StatementFault origin before includes fault = fault ≡ IncludeDirective
StatementFault origin before unknown fault = fault ≡ UnknownDirective
StatementFault origin before (sets_origin (bare text ∷ [])) fault =
    IsNameFaultAfter origin before text fault
StatementFault origin before (sets_ttl (bare text ∷ [])) fault = WordFault (ttl text) fault
StatementFault origin before (owned (bare text) items) fault =
    IsNameFaultAfter origin before text fault
StatementFault origin before (unowned items) fault =
    (fault ≡ NoOwner) × ((name : Labels) → IsLastOwner origin before name → ⊥)
StatementFault origin before (owned owner items) fault = fault ≡ NoOwner
StatementFault origin before no_items fault = ⊥
StatementFault origin before directive fault = fault ≡ BadDirective

-- the leftmost of the words before a record's type that has no value; after them no item at the
-- type's place, or one that is no type's word
abbrev pub PartsFault : List Word → List RawItem → Fault → Type 0
PartsFault [] (bare text ∷ items) fault = IsWordFault text fault
PartsFault [] items fault = fault ≡ UnknownType
PartsFault (word ∷ words) items fault =
    WordFault word fault ⊎ (HasValue word × PartsFault words items fault)

-- a record up to its data that has no TTL, or inherits one of more than 31 bits
pub data TtlFault (origin : Labels) (before : List Entry) (entry : Entry) : Fault → Type 0 where
  none : ((seconds : ℕ) → HasTtl origin before entry seconds → ⊥)
      → TtlFault origin before entry NoTtl
  long : (seconds : ℕ) → HasTtl origin before entry seconds → greatest_ttl < seconds
      → TtlFault origin before entry BadTtl

-- The first fault of an entry, the entries before it known, the latest first: of its statement;
-- after a good owner of the words and the type from the left; after them of the data; after good
-- data of the TTL
pub data EntryFault (origin : Labels) (before : List Entry) (entry : Entry)
    (fault : Fault) : Type 0 where
  of_statement : StatementFault origin before (statement_of entry) fault
      → EntryFault origin before entry fault
  of_parts : (owner : Labels) (parts : Parts) → IsOwner origin before (statement_of entry) owner
      → parts_in (statement_of entry) ≡ Some parts → PartsFault parts.words parts.rest fault
      → EntryFault origin before entry fault
  of_rdata : (owner : Labels) (class kind : ℕ) (items : List RawItem) (above : Labels)
      → HasHead origin before entry owner class kind items → IsOrigin origin before above
      → IsDataFault above class kind items fault → EntryFault origin before entry fault
  of_ttl : (owner : Labels) (rdata : Data) → HasContents origin before entry owner rdata
      → TtlFault origin before entry fault → EntryFault origin before entry fault
