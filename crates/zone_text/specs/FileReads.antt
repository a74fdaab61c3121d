-- What a master file gives (RFC 1035 5.1): the records of the entries before the first fault, and
-- that fault with its line. That a reading ends with the first fault is this project's own choice.
use Rattle.std.specs.Prelude.{◌≡◌, ℕ, List, [], ◌∷◌, Option, Some, None}
use Rattle.zone_name.specs.Common.{Labels}
use Rattle.zone_rdata.specs.declared.fault.Fault.{Fault}
use Rattle.zone_rdata.specs.declared.fault.Place.{Place}
use Rattle.zone_rdata.specs.declared.fault.Place.TheVariants.{Line}
use Rattle.zone_rdata.specs.declared.record.Placed.{Placed}
use Rattle.zone_text.specs.Breaks.{Breaks}
use Rattle.zone_text.specs.Tokens.{Token, Cuts}
use Rattle.zone_text.specs.Entries.{Entry, entries_of, ended_entries, open_line}
use Rattle.zone_text.specs.EntryFault.{EntryFault}
use Rattle.zone_text.specs.File.{StatesFirst}

-- the first fault and its place, or none
abbrev pub Ending : Type 0
Ending = Option (Fault × Place)

-- an entry states nothing or the first of the records, and others follow; or it has a fault, and
-- nothing follows
pub data ReadsFirst (origin : Labels) (before : List Entry) (entry : Entry)
    (Others : List Placed → Ending → Type 0) (placed : List Placed) (ending : Ending) : Type 0 where
  stated : StatesFirst origin before entry (λ others. Others others ending) placed
      → ReadsFirst origin before entry Others placed ending
  refused : (fault : Fault) → EntryFault origin before entry fault → placed ≡ []
      → ending ≡ Some (fault, Line entry.line) → ReadsFirst origin before entry Others placed ending

-- Entries give these records up to the first fault, the entries before them known, the latest
-- first. What comes after the last of them, if none has a fault, is known.
abbrev pub ReadEach : Labels → Ending → List Entry → List Entry → List Placed → Ending → Type 0
ReadEach origin after before [] placed ending = (placed ≡ []) × (ending ≡ after)
ReadEach origin after before (entry ∷ entries) placed ending =
    ReadsFirst origin before entry (ReadEach origin after (entry ∷ before) entries) placed ending

-- The reading of a file: of all its entries, or of those that were ended before the text breaks,
-- and then of the break at the line of the entry that is open there
pub data FileReads (origin : Labels) (octets : List ℕ) (placed : List Placed)
    (ending : Ending) : Type 0 where
  whole : (tokens : List Token) → Cuts octets tokens
      → ReadEach origin None [] (entries_of tokens) placed ending
      → FileReads origin octets placed ending
  broken : (tokens : List Token) (fault : Fault) → Breaks octets tokens fault
      → ReadEach origin (Some (fault, Line (open_line tokens))) []
      (ended_entries tokens) placed ending
      → FileReads origin octets placed ending
