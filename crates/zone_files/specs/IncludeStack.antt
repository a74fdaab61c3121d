-- A main file that is expanded with the files that it includes, while they are read: what the files
-- that are open stand for (RFC 1035 5.1). The reading in pieces is this project's own.
use Rattle.std.specs.Prelude.{◌≡◌, ℕ, zero, suc, ◌+◌, ◌-◌, ◌≤◌, ◌==◌, ◌⊎◌, List, [], ◌∷◌, ◌++◌, length, Option, Some, None, option_map}
use Rattle.std.specs.List.{count_by, slice_get}
use Rattle.zone_files.specs.Expansion.{Files, Holds, file, last_line, no_files, stops, stops_at, within}
use Rattle.zone_files.specs.FileExpander.{ExpanderState, HasFewerLines, IsOver, NamedFile, StandsFor, then}
use Rattle.zone_files.specs.Places.{counted}
use Rattle.zone_files.specs.declared.expansion.progress.FileStatus.{FileStatus}
use Rattle.zone_files.specs.declared.expansion.progress.FileStatus.TheVariants.{Ended, Faulty, FaultyAt, Generating, Going, Including}

-- ---- what was fed

-- A file: its octets that were fed, and the files that it included, which have ended
pub record FedFile : Type 0 where
  pub octets : List ℕ
  pub files : Files

-- the files that are open: the innermost one, and those that wait for it, the innermost first
pub record FedFiles : Type 0 where
  pub innermost : FedFile
  pub outer : List FedFile

-- nothing of a main file
abbrev pub main_alone : FedFiles
main_alone = record { innermost = record { octets = []; files = no_files }; outer = [] }

-- more octets of the innermost file
abbrev pub fed_more : List ℕ → FedFiles → FedFiles
fed_more part fed = record {
  innermost = record { octets = fed.innermost.octets ++ part; files = fed.innermost.files };
  outer = fed.outer;
}

-- a file is opened, of which nothing was fed
abbrev pub fed_inner : FedFiles → FedFiles
fed_inner fed = record {
  innermost = record { octets = []; files = no_files };
  outer = fed.innermost ∷ fed.outer;
}

-- a file and the last one that it included
abbrev pub with_inner : FedFile → FedFile → FedFile
with_inner outer inner =
    record { octets = outer.octets; files = then outer.files (file inner.octets inner.files no_files) }

-- so many of the innermost files have ended
abbrev pub ended_by : ℕ → FedFile → List FedFile → FedFiles
ended_by zero inner outer = record { innermost = inner; outer = outer }
ended_by (suc n) inner [] = record { innermost = inner; outer = [] }
ended_by (suc n) inner (outer ∷ others) = ended_by n (with_inner outer inner) others

abbrev pub fed_ended : ℕ → FedFiles → FedFiles
fed_ended n fed = ended_by n fed.innermost fed.outer

-- the main file, with all that was fed of it and of the files that it includes
abbrev pub main_by : FedFile → List FedFile → FedFile
main_by inner [] = inner
main_by inner (outer ∷ others) = main_by (with_inner outer inner) others

abbrev pub main_file : FedFiles → FedFile
main_file fed = main_by fed.innermost fed.outer

-- ---- what a stack stands for

-- the expanders of the files that are open, in the same order, and the line of the expanded text that
-- comes next
pub record StackState : Type 0 where
  pub innermost : ExpanderState
  pub outer : List ExpanderState
  pub next_line : ℕ

abbrev pub feeds_in : List ℕ → ℕ
feeds_in octets = count_by (λ c. c == 10) octets

-- the line that comes after a text, from 1, in 64 bits
abbrev pub line_after_text : List ℕ → ℕ
line_after_text octets = counted (1 + feeds_in octets)

-- the name of the file that comes first, where an `$INCLUDE` was met
abbrev pub wanted_by : FileStatus → ExpanderState → Option (List ℕ)
wanted_by Including s = option_map (λ (named : NamedFile). named.name) s.included
wanted_by status s = None

abbrev pub wanted_name : StackState → Option (List ℕ)
wanted_name state = wanted_by state.innermost.status state.innermost

-- the name of the file of which this holds: the last one that was opened of those that are open
abbrev pub file_name : Holds → Option (List ℕ)
file_name h = slice_get h.open_files (length h.open_files - 1)

-- an expander that waits for a file, before whose first entry this holds
pub record WaitsFor (s : ExpanderState) (fed : FedFile) (inner : Holds) : Type 0 where
  pub named : NamedFile
  pub included : s.included ≡ Some named
  pub waits : s.status ≡ Including
  pub inside : inner ≡ within named.name named.origin s.holds
  pub start : Holds
  pub given : List ℕ
  pub stands : StandsFor s start fed.octets fed.files given

-- Each expander waits for the file within it, and the main file begins with what holds first. All of
-- them gave this text.
abbrev pub AllWait : Holds → Holds → List ExpanderState → List FedFile → List ℕ → Type 0
AllWait first start [] [] text = (start ≡ first) × (text ≡ [])
AllWait first start [] (fed ∷ others) text = ⊥
AllWait first start (s ∷ states) [] text = ⊥
AllWait first start (s ∷ states) (fed ∷ others) text =
    (outer : WaitsFor s fed start) × (earlier : List ℕ) × (text ≡ earlier ++ outer.given)
    × AllWait first outer.start states others earlier

-- the last line of a text that a fault ends
abbrev pub stop_line : FileStatus → List ℕ
stop_line (Faulty fault) = last_line (stops fault)
stop_line (FaultyAt value) = last_line (stops_at value)
stop_line status = []

-- The expanders stand for the octets that were fed of each file, from what holds before the main
-- file, and for the text that they gave.
pub record StandForFiles (state : StackState) (first : Holds) (fed : FedFiles)
    (given : List ℕ) : Type 0 where
  pub start : Holds
  pub earlier : List ℕ
  pub outer : AllWait first start state.outer fed.outer earlier
  pub own : List ℕ
  pub innermost : StandsFor state.innermost start fed.innermost.octets fed.innermost.files own
  pub given_is : given ≡ earlier ++ own

-- The stack stands for the octets that it was fed of each file and for the text that it gave for
-- them: the text goes on from there, or a fault has ended it with the last line.
pub record StandsForFiles (state : StackState) (first : Holds) (fed : FedFiles)
    (text : List ℕ) : Type 0 where
  pub given : List ℕ
  pub stand : StandForFiles state first fed given
  pub text_is : text ≡ given ++ stop_line state.innermost.status
  pub line : state.next_line ≡ line_after_text text

-- ---- what the calls do

-- this was written, and what was fed changed so
pub record WritesForFiles (old : StackState) (changed : FedFiles → FedFiles) (new : StackState)
    (before after : List ℕ) : Type 0 where
  pub made : List ℕ
  pub written : after ≡ before ++ made
  pub stands : (first : Holds) (fed : FedFiles) (text : List ℕ)
      → StandsForFiles old first fed text → StandsForFiles new first (changed fed) (text ++ made)

-- a front of the octets was taken, as those of the innermost file
pub record FeedsInnermost (old : StackState) (octets left : List ℕ) (new : StackState)
    (before after : List ℕ) : Type 0 where
  pub part : List ℕ
  pub whole : octets ≡ part ++ left
  pub outer : new.outer ≡ old.outer
  pub writes : WritesForFiles old (fed_more part) new before after

-- a file is opened, of which nothing was fed
pub record BeginsInner (old new : StackState) : Type 0 where
  pub going : new.innermost.status ≡ Going
  pub outer : new.outer ≡ old.innermost ∷ old.outer
  pub stands : (first : Holds) (fed : FedFiles) (text : List ℕ)
      → StandsForFiles old first fed text → StandsForFiles new first (fed_inner fed) text

-- The innermost file has ended, and each file round it whose last entry included the one that ended
pub record EndsInnermost (old new : StackState) (before after : List ℕ) : Type 0 where
  pub ended : ℕ
  pub outer : length old.outer ≡ ended + length new.outer
  pub writes : WritesForFiles old (fed_ended ended) new before after
  pub main : new.innermost.status ≡ Ended → new.outer ≡ []
  pub over : IsOver new.innermost.status ⊎ (1 ≤ ended)

-- Some of the lines that come first were made. With the last of them the innermost file may have
-- ended, and each file round it whose last entry included the one that ended.
pub record MakesLines (old new : StackState) (before after : List ℕ) : Type 0 where
  pub ended : ℕ
  pub outer : length old.outer ≡ ended + length new.outer
  pub writes : WritesForFiles old (fed_ended ended) new before after
  pub main : old.innermost.status ≡ Generating → new.innermost.status ≡ Ended → new.outer ≡ []
  pub fewer : old.innermost.status ≡ Generating
      → HasFewerLines old.innermost new.innermost ⊎ (1 ≤ ended)
