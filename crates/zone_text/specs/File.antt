-- The records that a master file states (RFC 1035 5.1).
use Rattle.std.specs.Prelude.{◌≡◌, ℕ, List, [], ◌∷◌}
use Rattle.zone_name.specs.Common.{Labels}
use Rattle.zone_rdata.specs.declared.fault.Place.TheVariants.{Line}
use Rattle.zone_rdata.specs.declared.record.Placed.{Placed}
use Rattle.zone_text.specs.Statements.{statement_of}
use Rattle.zone_text.specs.Tokens.{Token, Cuts}
use Rattle.zone_text.specs.Entries.{Entry, entries_of}
use Rattle.zone_text.specs.Records.{StatesNothing, EntryStates}

-- an entry states nothing, or the first of the records, which stands at the entry's line; the
-- others follow
pub data StatesFirst (origin : Labels) (before : List Entry) (entry : Entry)
    (Others : List Placed → Type 0) (placed : List Placed) : Type 0 where
  states_none : StatesNothing origin before (statement_of entry) → Others placed
      → StatesFirst origin before entry Others placed
  states_one : (p : Placed) (others : List Placed) → EntryStates origin before entry p.rr
      → p.place ≡ Line entry.line → placed ≡ p ∷ others → Others others
      → StatesFirst origin before entry Others placed

-- every entry states nothing or its record, the entries before them known, the latest first
abbrev pub EntriesState : Labels → List Entry → List Entry → List Placed → Type 0
EntriesState origin before [] placed = placed ≡ []
EntriesState origin before (entry ∷ entries) placed =
    StatesFirst origin before entry (EntriesState origin (entry ∷ before) entries) placed

-- The text of a file states these records in this order, each at its line. A text that isn't cut
-- into tokens states none, nor does one with an entry that states neither a record nor nothing.
pub record FileStates (origin : Labels) (octets : List ℕ) (placed : List Placed) : Type 0 where
  pub tokens : List Token
  pub cut : Cuts octets tokens
  pub each : EntriesState origin [] (entries_of tokens) placed
