-- The faults of a main file and those that it includes, one after another: each is the first one
-- where the entries of those before are taken out (this project's own).
use Rattle.std.specs.Prelude.{◌≡◌, ℕ, suc, zero, ◌-◌, ◌^◌, List, [], ◌∷◌, ◌++◌, length, min, Bool, true, false, Option, Some, None, string_bytes}
use Rattle.zone_name.specs.Common.{Labels}
use Rattle.zone_rdata.specs.declared.fault.Fault.{Fault}
use Rattle.zone_rdata.specs.declared.fault.Fault.TheVariants.{BadEscape, UnbalancedParenthesis, UnclosedQuote}
use Rattle.zone_rdata.specs.declared.fault.Place.{Place}
use Rattle.zone_rdata.specs.declared.fault.Place.TheVariants.{Line}
use Rattle.zone_rdata.specs.declared.fault.Stop.{Stop}
use Rattle.zone_rdata.specs.declared.fault.Stop.TheVariants.{Refused}
use Rattle.zone_set.specs.Zone.{Zone}
use Rattle.zone_files.specs.Expansion.{Files, Holds, first_without}
use Rattle.zone_files.specs.ExpandedLoader.{ExpandedState, FilesDenoteWithout, RefusesFor, StandsForExpanded}
use Rattle.zone_files.specs.FaultLine.{place_text}
use Rattle.zone_files.specs.IncludeStack.{FedFiles, StackState, StandsForFiles}
use Rattle.zone_faults.specs.declared.finding.CheckEnd.{CheckEnd}
use Rattle.zone_faults.specs.declared.finding.CheckEnd.TheVariants as ends
use Rattle.zone_faults.specs.declared.found_fault.FaultyEntry.{FaultyEntry}
use Rattle.zone_files.specs.declared.placed_fault.FileFault.{FileFault}
use Rattle.zone_files.specs.declared.placed_fault.FileFault.TheVariants.{Expansion, Text}
use Rattle.zone_faults.specs.declared.found_fault.FoundFault.{FoundFault}
use Rattle.zone_files.specs.declared.stack.expanded_loader.ExpandedRefusal.{ExpandedRefusal}
use Rattle.zone_files.specs.declared.stack.expanded_loader.ExpandedRefusal.TheVariants as refusals

-- ---- the entry of a fault

-- the text breaks with this fault (RFC 1035 5.1): what follows can't be told apart
abbrev pub breaks_text : Fault → Bool
breaks_text BadEscape = true
breaks_text UnclosedQuote = true
breaks_text UnbalancedParenthesis = true
breaks_text fault = false

abbrev pub line_unless : Bool → ℕ → Option ℕ
line_unless true line = None
line_unless false line = Some line

-- the line of the entry that a refusal of a text is of, if that can be taken out
abbrev pub line_of_stop : Stop → Option ℕ
line_of_stop (Refused fault (Line line)) = line_unless (breaks_text fault) line
line_of_stop stop = None

-- ---- what is found

-- the refusal that a fault is, at a place of the expanded text
abbrev pub refusal_of : FileFault → Place → ExpandedRefusal
refusal_of (Expansion fault) place = refusals.Expansion fault
refusal_of (Text fault entry) place =
    refusals.Text (record { stop = Refused fault place; entry = entry })

-- the line that is taken out for a fault, where this line of the expanded text would come next
abbrev pub line_at_fault : FileFault → Place → ℕ → Option ℕ
line_at_fault (Expansion fault) place next = Some (next - 1)
line_at_fault (Text fault entry) place next = line_of_stop (Refused fault place)

-- a fault is found for a refusal
pub record IsFoundFor (refusal : ExpandedRefusal) (next : ℕ) (found : FoundFault) : Type 0 where
  pub place : Place
  pub is : refusal ≡ refusal_of found.fault place
  pub line : found.line ≡ line_at_fault found.fault place next

-- `FILE:LINE`, or `FILE:LINE value N`
abbrev pub faulty_text : FaultyEntry → List ℕ
faulty_text entry = place_text (string_bytes entry.name) entry.line entry.value

-- ---- the faults

-- a main file: the directory of the files that it includes, its name and its origin
pub record MainFile : Type 0 where
  pub directory : Option (List ℕ)
  pub name : List ℕ
  pub origin : Labels

abbrev pub main_file : Option (List ℕ) → List ℕ → Labels → MainFile
main_file directory name origin = record { directory = directory; name = name; origin = origin }

-- before its first entry, where the entries of these lines are taken out
abbrev pub begins : MainFile → List ℕ → Holds
begins main lines = first_without lines main.directory main.name main.origin

-- Without the entries of these lines the files, as far as they were read, are refused so.
pub record AreRefused (main : MainFile) (lines : List ℕ) (refusal : ExpandedRefusal)
    (stack : StackState) : Type 0 where
  pub fed : FedFiles
  pub text : List ℕ
  pub expands : StandsForFiles stack (begins main lines) fed text
  pub refuses : RefusesFor refusal stack main.origin text

-- a fault is the first one without the entries of these lines
pub record IsFirst (main : MainFile) (lines : List ℕ) (found : FoundFault) : Type 0 where
  pub stack : StackState
  pub refusal : ExpandedRefusal
  pub refused : AreRefused main lines refusal stack
  pub is_found : IsFoundFor refusal stack.next_line found

-- without the entries of these lines the files, as they were read, denote a zone
pub record AreDenoted (main : MainFile) (lines : List ℕ) (zone : Zone) : Type 0 where
  pub octets : List ℕ
  pub files : Files
  pub denotes :
      FilesDenoteWithout lines main.directory main.name main.origin octets files zone

-- without the entries of these lines the files denote a zone of so many records
pub record AreAccepted (main : MainFile) (lines : List ℕ) (count : ℕ) : Type 0 where
  pub zone : Zone
  pub denoted : AreDenoted main lines zone
  pub counted : count ≡ min (length zone.records) (2 ^ 64 - 1)

-- The faults that follow where the entries of these lines are taken out, at most so many, and why
-- there is no further one: the first of them, and those that follow where its entry is taken out too.
pub data FaultsWithout (main : MainFile) : ℕ → List ℕ → List FoundFault → CheckEnd → Type 0
  where
    enough : (lines : List ℕ) → FaultsWithout main zero lines [] ends.Enough
    accepted : (most : ℕ) (lines : List ℕ) (count : ℕ) → AreAccepted main lines count
        → FaultsWithout main (suc most) lines [] (ends.Accepted count)
    unread : (most : ℕ) (lines : List ℕ) (stack : StackState) → AreRefused main lines refusals.Unread stack
        → FaultsWithout main (suc most) lines [] (ends.Unread stack)
    last : (most : ℕ) (lines : List ℕ) (found : FoundFault) → IsFirst main lines found
        → found.line ≡ None → FaultsWithout main (suc most) lines (found ∷ []) ends.Last
    next : (most : ℕ) (lines : List ℕ) (found : FoundFault) (line : ℕ) (others : List FoundFault)
        (ending : CheckEnd) → IsFirst main lines found → found.line ≡ Some line
        → FaultsWithout main most (lines ++ line ∷ []) others ending
        → FaultsWithout main (suc most) lines (found ∷ others) ending

-- the faults of a main file and those that it includes, at most so many
abbrev pub AreFaults : MainFile → ℕ → List FoundFault → CheckEnd → Type 0
AreFaults main most found ending = FaultsWithout main most [] found ending

-- ---- a pass

-- more of the files was loaded
abbrev pub LoadsOn : ExpandedState → ExpandedState → Type 0
LoadsOn old new =
    (origin : Labels) (first : Holds) (fed : FedFiles) → StandsForExpanded old origin first fed
    → (after : FedFiles) × StandsForExpanded new origin first after
