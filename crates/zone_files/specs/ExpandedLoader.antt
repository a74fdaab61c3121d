-- The zone of a master file and those that it includes (RFC 1035 5.1), which are fed in pieces: what
-- a loader of it stands for, and why it is refused (this project's own).
use Rattle.std.specs.Prelude.{◌≡◌, ℕ, ◌+◌, ◌-◌, List, [], ◌∷◌, ◌++◌, codes, Option, Some, None, option_map}
use Rattle.zone_name.specs.Common.{Labels}
use Rattle.zone_rdata.specs.declared.fault.Fault.{Fault}
use Rattle.zone_rdata.specs.declared.fault.Place.TheVariants.{Line}
use Rattle.zone_set.specs.Zone.{Zone}
use Rattle.zone_engine.specs.Refusal.{IfRefused}
use Rattle.zone_words.specs.Refusal.{refused_of}
use Rattle.zone_words.specs.Rewriting.{Refused}
use Rattle.zone_files.specs.Expansion.{Ending, Files, Holds, IsExpandedWithout}
use Rattle.zone_files.specs.FileExpander.{ExpanderState}
use Rattle.zone_files.specs.IncludeStack.{FedFiles, StackState, StandsForFiles, fed_ended, fed_more}
use Rattle.zone_files.specs.Loading.Fed.{LoadingState, StandsForPresentation}
use Rattle.zone_files.specs.Loading.Report.{IsReported}
use Rattle.zone_files.specs.Presentation.{PresentationDenotes}
use Rattle.zone_files.specs.declared.expansion.progress.FileStatus.{FileStatus}
use Rattle.zone_files.specs.declared.expansion.progress.FileStatus.TheVariants.{BrokenOff, Ended, Faulty, FaultyAt}
use Rattle.zone_files.specs.declared.fault.ExpansionFault.{ExpansionFault}
use Rattle.zone_files.specs.declared.fault.ExpansionFault.TheVariants.{BadTemplate}
use Rattle.zone_files.specs.declared.loading.refusal.PresentationRefusal.{PresentationRefusal}
use Rattle.zone_files.specs.declared.stack.expanded_loader.ExpandedRefusal.{ExpandedRefusal}
use Rattle.zone_files.specs.declared.stack.expanded_loader.ExpandedRefusal.TheVariants.{Expansion, Unread, Text}

-- What a loader holds: the files that are open, and the loader of their expanded text
pub record ExpandedState : Type 0 where
  pub stack : StackState
  pub loader : LoadingState

-- the expanded text so far is what was loaded, under the origin of the main file
pub record StandsForExpanded (state : ExpandedState) (origin : Labels) (first : Holds)
    (fed : FedFiles) : Type 0 where
  pub text : List ℕ
  pub expands : StandsForFiles state.stack first fed text
  pub loads : StandsForPresentation origin state.loader text

-- a front of the octets was taken, as those of the innermost file
pub record LoadsInnermost (old : ExpandedState) (octets left : List ℕ) (new : ExpandedState)
    : Type 0 where
  pub part : List ℕ
  pub whole : octets ≡ part ++ left
  pub outer : new.stack.outer ≡ old.stack.outer
  pub stands : (origin : Labels) (first : Holds) (fed : FedFiles)
      → StandsForExpanded old origin first fed
      → StandsForExpanded new origin first (fed_more part fed)

-- the innermost file has ended, and those that end with it, or none has
pub record LoadsEnd (old new : ExpandedState) : Type 0 where
  pub ended : ℕ
  pub stands : (origin : Labels) (first : Holds) (fed : FedFiles)
      → StandsForExpanded old origin first fed
      → StandsForExpanded new origin first (fed_ended ended fed)

-- A main file with the files that it includes denotes a zone: the one that its expanded text denotes.
-- The entries of these lines are taken out.
pub record FilesDenoteWithout (lines : List ℕ) (directory : Option (List ℕ)) (name : List ℕ)
    (origin : Labels) (octets : List ℕ) (files : Files) (z : Zone) : Type 0 where
  pub text : List ℕ
  pub ending : Ending
  pub expanded : IsExpandedWithout lines directory name origin octets files text ending
  pub denotes : PresentationDenotes origin text z

abbrev pub FilesDenote : Option (List ℕ) → List ℕ → Labels → List ℕ → Files → Zone → Type 0
FilesDenote = FilesDenoteWithout []

-- the line by which a text denotes no zone
abbrev pub stopped : List ℕ
stopped = codes "$STOPPED" ++ 10 ∷ []

-- the text that is judged: the expanded text, or what there is of it, with a last line by which it
-- denotes no zone
abbrev pub judged_by : FileStatus → List ExpanderState → List ℕ → List ℕ
judged_by Ended [] text = text
judged_by BrokenOff outer text = text
judged_by (Faulty fault) outer text = text
judged_by (FaultyAt value) outer text = text
judged_by status outer text = text ++ stopped

abbrev pub judged : StackState → List ℕ → List ℕ
judged state text = judged_by state.innermost.status state.outer text

-- the text is refused, and this is reported of it
abbrev pub ReportsText : PresentationRefusal → Labels → List ℕ → Type 0
ReportsText refusal origin text =
    IfRefused refusal.stop (λ fault place. IsReported origin text fault place
    (option_map refused_of refusal.entry))

-- the text is refused at this line
pub record IsReportedOn (origin : Labels) (text : List ℕ) (line : ℕ) : Type 0 where
  pub fault : Fault
  pub entry : Option Refused
  pub reported : IsReported origin text fault (Line line) entry

-- the text isn't refused before this line
pub data IsFaultlessTo (origin : Labels) (text : List ℕ) (line : ℕ) : Type 0 where
  refused_there : IsReportedOn origin text line → IsFaultlessTo origin text line
  accepted : (z : Zone) → PresentationDenotes origin text z → IsFaultlessTo origin text line

-- the fault that has ended the text: of an entry, or of a value for which a `$GENERATE` has no line
abbrev pub fault_of : FileStatus → Option ExpansionFault
fault_of (Faulty fault) = Some fault
fault_of (FaultyAt value) = Some BadTemplate
fault_of status = None

-- Why files are refused, of which this text was loaded: an entry that can't be expanded, or a file
-- that wasn't read to its end, where no entry before has a fault; or what is reported of the text.
abbrev pub RefusesFor : ExpandedRefusal → StackState → Labels → List ℕ → Type 0
RefusesFor (Expansion fault) stack origin text =
    (fault_of stack.innermost.status ≡ Some fault) × IsReportedOn origin text (stack.next_line - 1)
RefusesFor Unread stack origin text = IsFaultlessTo origin (judged stack text) stack.next_line
RefusesFor (Text refusal) stack origin text = ReportsText refusal origin (judged stack text)
