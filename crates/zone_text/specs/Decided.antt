-- What is decided of a file by the octets that were fed so far, whatever octets follow them. This
-- is this project's own: RFC 1035 5.1 speaks of whole files.
use Rattle.std.specs.Prelude.{◌≡◌, ℕ, List, [], ◌++◌, Some, None, ◌⊎◌}
use Rattle.zone_name.specs.Common.{Labels}
use Rattle.zone_rdata.specs.declared.fault.Fault.{Fault}
use Rattle.zone_rdata.specs.declared.fault.Place.{Place}
use Rattle.zone_rdata.specs.declared.fault.Place.TheVariants.{Line}
use Rattle.zone_rdata.specs.declared.record.Placed.{Placed}
use Rattle.zone_text.specs.Breaks.{Breaks}
use Rattle.zone_text.specs.Lasting.{BreaksForGood}
use Rattle.zone_text.specs.Tokens.{Token, Cuts}
use Rattle.zone_text.specs.Entries.{ended_entries, open_line}
use Rattle.zone_text.specs.FileReads.{ReadEach, Ending}

-- the tokens of the octets, up to where they break if they do
abbrev pub AreTokens : List ℕ → List Token → Type 0
AreTokens octets tokens = Cuts octets tokens ⊎ ((fault : Fault) × Breaks octets tokens fault)

-- The records and the first fault of the entries that a line feed has ended, and after them the
-- fault of a break of which the octets show that it stays (a `)` or a bad escape, not one that the
-- end of the octets makes), at the line of the entry that is open there
pub data FileDecides (origin : Labels) (octets : List ℕ) (placed : List Placed)
    (ending : Ending) : Type 0 where
  undecided : (tokens : List Token) → AreTokens octets tokens
      → ((fault : Fault) → BreaksForGood octets tokens fault → ⊥)
      → ReadEach origin None [] (ended_entries tokens) placed ending
      → FileDecides origin octets placed ending
  decided : (tokens : List Token) (fault : Fault) → BreaksForGood octets tokens fault
      → ReadEach origin (Some (fault, Line (open_line tokens))) []
      (ended_entries tokens) placed ending
      → FileDecides origin octets placed ending

-- what was decided stays: the records are the first of those that come to be, and after a fault
-- nothing comes
pub record Stays (placed : List Placed) (ending : Ending) (later : List Placed)
    (last : Ending) : Type 0 where
  pub others : List Placed
  pub first : later ≡ placed ++ others
  pub fault : (found : Fault × Place) → ending ≡ Some found → (later ≡ placed) × (last ≡ ending)
