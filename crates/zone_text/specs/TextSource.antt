-- A source of the records of a master file that is fed in pieces: what it keeps, and what it stands
-- for. This is this project's own: RFC 1035 speaks of whole files.
use Rattle.std.specs.Prelude.{◌≡◌, ℕ, zero, List, ◌++◌, reverse}
use Rattle.std.specs.List.{flat_map}
use Rattle.zone_name.specs.Common.{Labels}
use Rattle.zone_rdata.specs.FedSource.{SourceState, StandsFor}
use Rattle.zone_rdata.specs.declared.record.Placed.{Placed}
use Rattle.zone_text.specs.Decided.{AreTokens, FileDecides}
use Rattle.zone_text.specs.ParserState.{IsStateAfter}
use Rattle.zone_text.specs.Entries.{cut_from, ended_entries, open_line}
use Rattle.zone_text.specs.FileReads.{FileReads}
use Rattle.zone_text.specs.Tokens.{Token, text}
use Rattle.zone_text.specs.declared.parser_state.ParserState.{ParserState}

-- what a source keeps of a file after the entries that were ended: the parser state and the line
pub record FileKept : Type 0 where
  pub state : ParserState
  pub line : ℕ

-- these are the octets after the last line feed that ended an entry
pub record AreUnfinished (fed unfinished : List ℕ) : Type 0 where
  pub tokens : List Token
  pub are : AreTokens fed tokens
  pub whole : fed ≡ flat_map text (cut_from zero tokens).ended ++ unfinished

-- what the octets fed leave: the octets after the last line feed that ended an entry, and the
-- parser state and the line after those entries
pub record FileLeaves (origin : Labels) (fed : List ℕ) (state : ParserState) (line : ℕ)
    (unfinished : List ℕ) : Type 0 where
  pub octets : AreUnfinished fed unfinished
  pub inherited : IsStateAfter origin (reverse (ended_entries octets.tokens)) state
  pub numbered : line ≡ open_line octets.tokens

-- the source, made under an origin, stands for the octets of a file that it was fed and the records
-- that it has given
abbrev pub StandsForFile : Labels → SourceState FileKept → List ℕ → List Placed → Type 0
StandsForFile origin source fed given =
    StandsFor (FileDecides origin fed) (FileReads origin fed)
    (λ kept unfinished. FileLeaves origin fed kept.state kept.line unfinished) source fed given
