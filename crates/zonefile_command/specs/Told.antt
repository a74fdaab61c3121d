-- The line on an input that gives no zone, and the exit status (this project's own).
use Rattle.std.specs.Prelude.{◌≡◌, ℕ, List, ◌++◌, Option, Some, None}
use Rattle.zone_rdata.specs.declared.fault.Fault.{Fault}
use Rattle.zone_rdata.specs.declared.fault.Place.{Place}
use Rattle.zone_rdata.specs.declared.fault.Place.TheVariants.{Line}
use Rattle.zone_rdata.specs.declared.fault.Stop.{Stop}
use Rattle.zone_rdata.specs.declared.fault.Stop.TheVariants.{Refused, Read, Write, Memory}
use Rattle.zone_engine.specs.Telling.{stop_line, stop_status}
use Rattle.zone_words.specs.declared.refusal.Refusal.{Refusal}
use Rattle.zone_files.specs.FaultLine.{data_fault_line, entry_text, expansion_line, fault_line, fault_place_text, unreadable_line, unreadable_main_line}
use Rattle.zone_files.specs.IncludeStack.{StackState, wanted_name}
use Rattle.zone_files.specs.declared.fault_line.EntryPlace.{EntryPlace}
use Rattle.zone_files.specs.declared.fault_line.FaultPlace.{FaultPlace}
use Rattle.zone_files.specs.declared.fault_line.FaultPlace.TheVariants.{Entry, Input}
use Rattle.zone_files.specs.declared.files.stop.FilesStop.{FilesStop}
use Rattle.zone_files.specs.declared.files.stop.FilesStop.TheVariants as stops
use Rattle.zone_files.specs.declared.stack.expanded_loader.ExpandedRefusal.TheVariants.{Expansion, Unread, Text}

-- Where a fault of the expanded text is in the files. A line of the text is an entry of one of them:
-- which one isn't stated here.
abbrev pub IsPlaced : Place → FaultPlace → Type 0
IsPlaced (Line line) at = Unit {0}
IsPlaced place at = at ≡ Input

-- the line of a refusal: it names the entry at fault, if its items state no data of its further type
abbrev pub refused_line : Fault → Option Refusal → FaultPlace → List ℕ
refused_line fault (Some entry) at = data_fault_line entry (fault_place_text at)
refused_line fault None at = fault_line fault (fault_place_text at)

-- what is told of the expanded text that gives no zone, after these words
abbrev pub TellsText : List ℕ → Stop → Option Refusal → List ℕ → Type 0
TellsText words (Refused fault place) entry line =
    (at : FaultPlace) × IsPlaced place at × (line ≡ words ++ refused_line fault entry at)
TellsText words stop entry line = line ≡ words ++ stop_line stop

-- a file of this name can't be read: an `$INCLUDE` names it, or it is the main file
pub data TellsUnreadable (name : List ℕ) (line : List ℕ) : Type 0 where
  included : (at : EntryPlace) → line ≡ unreadable_line (entry_text at) name
      → TellsUnreadable name line
  main : line ≡ unreadable_main_line name → TellsUnreadable name line

-- the file that can't be read: the one that is wanted, or else the innermost one, which is open
abbrev pub UnreadBy : Option (List ℕ) → List ℕ → Type 0
UnreadBy (Some name) line = TellsUnreadable name line
UnreadBy None line = (name : List ℕ) × TellsUnreadable name line

abbrev pub TellsUnread : StackState → List ℕ → Type 0
TellsUnread stack line = UnreadBy (wanted_name stack) line

-- the line on the file of the command line, of this path
abbrev pub main_line : List ℕ → List ℕ → Stop → List ℕ
main_line words path Read = unreadable_main_line path
main_line words path stop = words ++ stop_line stop

-- the line on an input that gives no zone, after these words: the files that can't be read are named
-- without them
abbrev pub IsStopLine : List ℕ → List ℕ → FilesStop → List ℕ → Type 0
IsStopLine words path (stops.Files (Expansion fault) stack) line =
    (at : FaultPlace) × (line ≡ words ++ expansion_line fault (fault_place_text at))
IsStopLine words path (stops.Files Unread stack) line = TellsUnread stack line
IsStopLine words path (stops.Files (Text refusal) stack) line =
    TellsText words refusal.stop refusal.entry line
IsStopLine words path (stops.Input stop) line = line ≡ main_line words path stop

-- the exit status: 3 if the input is refused, 4 if it can't be read or memory was refused
abbrev pub files_status : FilesStop → ℕ
files_status (stops.Files (Expansion fault) stack) = 3
files_status (stops.Files Unread stack) = 4
files_status (stops.Files (Text refusal) stack) = stop_status refusal.stop
files_status (stops.Input stop) = stop_status stop
