-- A master file with the files that it includes, of which a caller gives a table (RFC 1035 5.1): what it
-- denotes, and what is answered where it denotes no zone. The table is this project's own.
use Rattle.std.specs.Prelude.{◌≡◌, ◌⊎◌, ℕ, List, [], ◌∷◌, ◌++◌, Bool, true, false, bytes_eq, codes, map, Option, Some, None}
use Rattle.zone_name.specs.Common.{Labels}
use Rattle.zone_name.specs.Spelling.{SpellsCased}
use Rattle.zone_rdata.specs.FaultTable.{fault_row}
use Rattle.zone_rdata.specs.declared.fault.Fault.{Fault}
use Rattle.zone_rdata.specs.declared.fault.Fault.TheVariants as faults
use Rattle.zone_rdata.specs.declared.fault.Stop.{Stop}
use Rattle.zone_rdata.specs.declared.fault.Stop.TheVariants.{Refused}
use Rattle.zone_set.specs.Zone.{Zone}
use Rattle.zone_words.specs.declared.refusal.Refusal.{Refusal}
use Rattle.zone_files.specs.ExpandedLoader.{FilesDenote}
use Rattle.zone_files.specs.Expansion.{Files}
use Rattle.zone_files.specs.ExpansionFault.{expansion_row}
use Rattle.zone_files.specs.FaultLine.{data_fault_line, expansion_line, fault_line, fault_place_text}
use Rattle.zone_files.specs.IncludeStack.{wanted_name}
use Rattle.zone_files.specs.Reading.{octets_in}
use Rattle.zone_files.specs.declared.fault_line.EntryPlace.{EntryPlace}
use Rattle.zone_files.specs.declared.fault_line.FaultPlace.{FaultPlace}
use Rattle.zone_files.specs.declared.fault_line.FaultPlace.TheVariants.{Entry, Input}
use Rattle.zone_files.specs.declared.files.stop.FilesStop.{FilesStop}
use Rattle.zone_files.specs.declared.files.stop.FilesStop.TheVariants as stops
use Rattle.zone_files.specs.declared.stack.expanded_loader.ExpandedRefusal.TheVariants.{Expansion, Unread, Text}
use Rattle.zonenorm_c.specs.declared.answer.Answer.{Answer}
use Rattle.zonenorm_c.specs.declared.given.Given.{Given}

-- the name of the main file, which is given without one: that of standard input
abbrev pub main_name : List ℕ
main_name = codes "-"

-- the octets of the first file of this name in a table of names and octets
abbrev pub file_if : Bool → List ℕ → Option (List ℕ) → Option (List ℕ)
file_if true octets other = Some octets
file_if false octets other = other

abbrev pub file_in : List (List ℕ) → List (List ℕ) → List ℕ → Option (List ℕ)
file_in [] files name = None
file_in (first ∷ names) [] name = None
file_in (first ∷ names) (octets ∷ files) name =
    file_if (bytes_eq first name) octets (file_in names files name)

-- the table of a caller
abbrev pub given_file : Given → List ℕ → Option (List ℕ)
given_file given name =
    file_in (map (λ n. n.now) given.names.now) (map (λ f. f.now) given.files.now) name

-- each of these is the octets of a file of the table
abbrev pub AreGiven : Given → List (List ℕ) → Type 0
AreGiven given [] = Unit {0}
AreGiven given (octets ∷ others) =
    ((name : List ℕ) × (given_file given name ≡ Some octets)) × AreGiven given others

-- the directory of included files: none if it is empty
abbrev pub IsDirectory : List ℕ → Option (List ℕ) → Type 0
IsDirectory [] directory = directory ≡ None
IsDirectory (c ∷ octets) directory = directory ≡ Some (c ∷ octets)

-- the main file and those that it includes, each of the table
pub record IsGivenTree (given : Given) (directory : Option (List ℕ)) (cased : Labels) (tree : Files)
    : Type 0 where
  pub spells : SpellsCased None given.origin.now cased
  pub folder : IsDirectory given.directory.now directory
  pub from : AreGiven given (octets_in tree)

-- the zone that they denote
pub record DenotesFiles (given : Given) (z : Zone) : Type 0 where
  pub kind : given.kind ≡ 3
  pub cased : Labels
  pub directory : Option (List ℕ)
  pub tree : Files
  pub is : IsGivenTree given directory cased tree
  pub denotes : FilesDenote directory main_name cased given.octets.now tree z

-- ---- what is answered where there is no zone

abbrev pub value_of : Option ℕ → ℕ
value_of None = 0
value_of (Some value) = value

-- where a fault is
abbrev pub IsAt : FaultPlace → Answer → Type 0
IsAt (Entry p) answer =
    (answer.place ≡ 1) × (answer.line ≡ p.line) × (answer.value ≡ value_of p.value)
IsAt Input answer = answer.place ≡ 0

-- a fault of this number at a place is reported with this line, or without it if there was no memory
abbrev pub ReportsAt : ℕ → (List ℕ → List ℕ) → List ℕ → Answer → Type 0
ReportsAt number line text answer = (at : FaultPlace) × (answer.status ≡ 3)
    × (answer.fault ≡ number) × IsAt at answer
    × ((text ≡ line (fault_place_text at)) ⊎ (text ≡ []))

-- memory was refused
abbrev pub HasNoMemory : List ℕ → Answer → Type 0
HasNoMemory text answer = (answer.status ≡ 4) × (text ≡ [])

-- the file that is wanted is named, with a line feed
abbrev pub ReportsWanted : Option (List ℕ) → List ℕ → Answer → Type 0
ReportsWanted None text answer = HasNoMemory text answer
ReportsWanted (Some name) text answer =
    ((answer.status ≡ 6) × (text ≡ name ++ 10 ∷ [])) ⊎ HasNoMemory text answer

-- a fault of the expanded text: of an entry whose items state no data of its further type, or another
abbrev pub ReportsFault : Fault → Option Refusal → List ℕ → Answer → Type 0
ReportsFault fault (Some entry) text answer =
    ReportsAt (fault_row faults.BadRdata).number (data_fault_line entry) text answer
ReportsFault fault None text answer =
    ReportsAt (fault_row fault).number (fault_line fault) text answer

abbrev pub ReportsText : Stop → Option Refusal → List ℕ → Answer → Type 0
ReportsText (Refused fault place) entry text answer = ReportsFault fault entry text answer
ReportsText stop entry text answer = HasNoMemory text answer

abbrev pub ReportsInput : Stop → List ℕ → Answer → Type 0
ReportsInput (Refused fault place) text answer = ReportsFault fault None text answer
ReportsInput stop text answer = HasNoMemory text answer

-- what is reported of files that give no zone
abbrev pub ReportsFilesStop : FilesStop → List ℕ → Answer → Type 0
ReportsFilesStop (stops.Files (Expansion fault) stack) text answer =
    ReportsAt (expansion_row fault).number (expansion_line fault) text answer
ReportsFilesStop (stops.Files Unread stack) text answer =
    ReportsWanted (wanted_name stack) text answer
ReportsFilesStop (stops.Files (Text refusal) stack) text answer =
    ReportsText refusal.stop refusal.entry text answer
ReportsFilesStop (stops.Input stop) text answer = ReportsInput stop text answer
