-- An expander of a file that is read in pieces: what it stands for. This is this project's own: RFC
-- 1035 speaks of whole files.
use Rattle.std.specs.Prelude.{◌≡◌, ℕ, ◌<◌, List, [], ◌++◌, length, Bool, true, false, Option, Some, None}
use Rattle.zone_name.specs.Common.{Labels}
use Rattle.zone_generate.specs.Entry.{Generation}
use Rattle.zone_generate.specs.Lines.{AreLines}
use Rattle.zone_generate.specs.Steps.{AreWithin}
use Rattle.zone_files.specs.Expansion.{Ending, Expands, Files, Holds, back_in, breaks_off, ends, file, no_files, origin_line, stops, stops_at, within}
use Rattle.zone_files.specs.declared.expansion.progress.FileStatus.{FileStatus}
use Rattle.zone_files.specs.declared.expansion.progress.FileStatus.TheVariants.{Broken, BrokenOff, Ended, Faulty, FaultyAt, Generating, Going, Including, Failed}

-- the file that an `$INCLUDE` names: the name under which it is opened, and its origin
pub record NamedFile : Type 0 where
  pub name : List ℕ
  pub origin : Labels

-- What an expander holds: what holds for the next entry, the octets of the entry that isn't ended,
-- how far it is, the file that comes first where an `$INCLUDE` was met, the lines that come first
-- where a `$GENERATE` was met, and whether this was the last entry of the file
pub record ExpanderState : Type 0 where
  pub holds : Holds
  pub waiting : List ℕ
  pub status : FileStatus
  pub included : Option NamedFile
  pub generated : Option Generation
  pub last : Bool

-- files, and others after them
abbrev pub then : Files → Files → Files
then no_files later = later
then (file octets inner others) later = file octets inner (then others later)

-- Whatever follows the octets that wait: what it makes, from what holds on, follows the text that
-- was given.
abbrev pub Continues : Holds → Holds → List ℕ → List ℕ → Files → List ℕ → Type 0
Continues start h waiting fed files given =
    (more : List ℕ) (later : Files) (written : List ℕ) (ending : Ending)
    → Expands h (waiting ++ more) later written ending
    → Expands start (fed ++ more) (then files later) (given ++ written) ending

-- the file goes on after an included file, or has ended with it
abbrev pub GoesOn : Bool → Holds → Holds → List ℕ → Files → List ℕ → Type 0
GoesOn true start h fed files given = Expands start fed files given (ends h)
GoesOn false start h fed files given = Continues start h [] fed files given

-- by how the included file ends
abbrev pub AfterInner : Bool → Holds → Holds → List ℕ → Files → List ℕ → Ending → Type 0
AfterInner last start h fed files given (ends inner) =
    GoesOn last start (back_in h inner) fed files (given ++ origin_line h.origin)
AfterInner last start h fed files given stopped = Expands start fed files given stopped

-- whatever the included file is, and makes
abbrev pub Awaits : ExpanderState → NamedFile → Holds → List ℕ → Files → List ℕ → Type 0
Awaits s named start fed files given =
    (octets : List ℕ) (inner : Files) (inside : List ℕ) (ending : Ending)
    → Expands (within named.name named.origin s.holds) octets inner inside ending
    → AfterInner s.last start s.holds fed (then files (file octets inner no_files))
    (given ++ inside) ending

-- lines for all values, after which the file goes on, or those before the first value without one
abbrev pub AfterLines : Bool → Holds → Holds → List ℕ → Files → List ℕ → Option ℕ → Type 0
AfterLines last start h fed files given None = GoesOn last start h fed files given
AfterLines last start h fed files given (Some value) = Expands start fed files given (stops_at value)

-- whatever the lines that come first are
abbrev pub AwaitsLines : ExpanderState → Generation → Holds → List ℕ → Files → List ℕ → Type 0
AwaitsLines s g start fed files given =
    (lines : List ℕ) (fault : Option ℕ) → AreLines g.templates g.values lines fault
    → AfterLines s.last start s.holds fed files (given ++ lines) fault

-- The expander stands for the octets of the file that it was fed and the files that were included,
-- from what holds before the file, with the text that it gave for them: the text goes on from there,
-- or is the file's.
abbrev pub StandsBy : FileStatus → ExpanderState → Holds → List ℕ → Files → List ℕ → Type 0
StandsBy Going s start fed files given = Continues start s.holds s.waiting fed files given
StandsBy Including s start fed files given =
    (named : NamedFile) × (s.included ≡ Some named) × Awaits s named start fed files given
StandsBy Generating s start fed files given =
    (g : Generation) × (s.generated ≡ Some g) × AwaitsLines s g start fed files given
StandsBy Broken s start fed files given =
    (more : List ℕ) → Expands start (fed ++ more) files (given ++ more) breaks_off
StandsBy Ended s start fed files given = Expands start fed files given (ends s.holds)
StandsBy BrokenOff s start fed files given = Expands start fed files given breaks_off
StandsBy (Faulty fault) s start fed files given = Expands start fed files given (stops fault)
StandsBy (FaultyAt value) s start fed files given = Expands start fed files given (stops_at value)
StandsBy Failed s start fed files given = Unit {0}

abbrev pub StandsFor : ExpanderState → Holds → List ℕ → Files → List ℕ → Type 0
StandsFor s start fed files given = StandsBy s.status s start fed files given

-- the expander goes on with these octets, and this was written
pub record WritesFor (old : ExpanderState) (part : List ℕ) (new : ExpanderState)
    (before after : List ℕ) : Type 0 where
  pub made : List ℕ
  pub written : after ≡ before ++ made
  pub stands : (start : Holds) (fed : List ℕ) (files : Files) (given : List ℕ)
      → StandsFor old start fed files given
      → StandsFor new start (fed ++ part) files (given ++ made)

-- a front of the octets was taken
pub record Feeds (old : ExpanderState) (octets left : List ℕ) (new : ExpanderState)
    (before after : List ℕ) : Type 0 where
  pub part : List ℕ
  pub whole : octets ≡ part ++ left
  pub writes : WritesFor old part new before after

-- a file or lines come first, or nothing follows
abbrev pub IsOver : FileStatus → Type 0
IsOver status = (status ≡ Going → ⊥) × (status ≡ Broken → ⊥)

-- The expander goes on after the file that comes first: it stands for that file too, and for what
-- was given for it.
pub record TakesIncluded (old inner new : ExpanderState) (before after : List ℕ) : Type 0 where
  pub made : List ℕ
  pub written : after ≡ before ++ made
  pub stands : (named : NamedFile) (start : Holds) (fed : List ℕ) (files : Files) (given : List ℕ)
      (own : List ℕ) (below : Files) (inside : List ℕ) → old.included ≡ Some named
      → StandsFor old start fed files given
      → StandsFor inner (within named.name named.origin old.holds) own below inside
      → StandsFor new start fed (then files (file own below no_files)) ((given ++ inside) ++ made)

-- how many lines may come first
abbrev pub lines_left : Option Generation → ℕ
lines_left None = 0
lines_left (Some g) = length g.values

-- No more than 65,536 octets of lines are appended, and one line.
abbrev pub AddsWithin : Option Generation → List ℕ → List ℕ → Type 0
AddsWithin None before after = after ≡ before
AddsWithin (Some g) before after = AreWithin 65536 g.templates before after

-- fewer lines come first, or none do
abbrev pub HasFewerLines : ExpanderState → ExpanderState → Type 0
HasFewerLines old new =
    new.status ≡ Generating → lines_left new.generated < lines_left old.generated
