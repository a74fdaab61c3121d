-- Why a main file and those that it includes are read no further, and why they give no zone (this
-- project's own).
use Rattle.std.specs.Prelude.{◌≡◌, ℕ, ◌<◌, ◌≤◌, ◌⊎◌, List, [], ◌∷◌, ◌++◌, length, Option, Some, None}
use Rattle.std.specs.Io.KnownBytes.{Appends, Consumes}
use Rattle.zone_name.specs.Common.{Labels}
use Rattle.zone_print.specs.Canonical.{text_limit}
use Rattle.zone_print.specs.Device.{Device, Fails}
use Rattle.zone_print.specs.Writing.{AppendsPart}
use Rattle.zone_rdata.specs.declared.fault.Fault.{Fault}
use Rattle.zone_rdata.specs.declared.fault.Fault.TheVariants.{InputTooLong}
use Rattle.zone_rdata.specs.declared.fault.Place.{Place}
use Rattle.zone_rdata.specs.declared.fault.Place.TheVariants.{Whole}
use Rattle.zone_rdata.specs.declared.fault.Stop.{Stop}
use Rattle.zone_rdata.specs.declared.fault.Stop.TheVariants as stops
use Rattle.zone_files.specs.Expansion.{Ending, Files, Holds, IsExpanded, at_first, breaks_off, ends}
use Rattle.zone_files.specs.ExpandedLoader.{RefusesFor, fault_of, stopped}
use Rattle.zone_files.specs.IncludeStack.{FedFiles, StackState, StandsForFiles, main_file, wanted_name}
use Rattle.zone_files.specs.Reading.{OpenedFile, OpensEach, ReadsPart}
use Rattle.zone_files.specs.declared.expansion.progress.FileStatus.{FileStatus}
use Rattle.zone_files.specs.declared.expansion.progress.FileStatus.TheVariants.{BrokenOff, Ended, Faulty, FaultyAt}
use Rattle.zone_files.specs.declared.files.stop.FilesStop.{FilesStop}
use Rattle.zone_files.specs.declared.files.stop.FilesStop.TheVariants as told
use Rattle.zone_files.specs.declared.stack.expanded_loader.ExpandedRefusal.{ExpandedRefusal}
use Rattle.zone_files.specs.declared.stack.expanded_loader.ExpandedRefusal.TheVariants.{Expansion, Text, Unread}

-- the text of the files has ended
abbrev pub HasEnded : FileStatus → Type 0
HasEnded Ended = Unit {0}
HasEnded BrokenOff = Unit {0}
HasEnded (Faulty fault) = Unit {0}
HasEnded (FaultyAt value) = Unit {0}
HasEnded status = ⊥

-- the text of the files has ended, and no file waits for one that has
abbrev pub HasEndedAlone : StackState → Type 0
HasEndedAlone stack =
    HasEnded stack.innermost.status × (stack.innermost.status ≡ Ended → stack.outer ≡ [])

-- a file that is read: the main file, or one that was opened
pub data IsRead {F : Type 0} (main : F) (opened : List (OpenedFile F)) (reader : F) : Type 0 where
  of_main : reader ≡ main → IsRead main opened reader
  of_opened : (earlier later : List (OpenedFile F)) (it : OpenedFile F)
      → opened ≡ earlier ++ it ∷ later → reader ≡ it.reader → IsRead main opened reader

-- The files were read so far: the stack of those that are open stands for what their readers gave, and
-- gave this text.
pub record IsReadSoFar {S F : Type 0} (Opens : S → List ℕ → Option F → S → Type 0)
    (state : F → Device) (main : F) (first : Holds) (old now : S) (stack : StackState)
    (text : List ℕ) : Type 0 where
  pub fed : FedFiles
  pub stands : StandsForFiles stack first fed text
  pub reads : ReadsPart Opens state main old now (main_file fed).octets (main_file fed).files

-- a file has more octets than the limit, or the expanded text of what was read of the files has
pub data IsTooLong {S F : Type 0} (Opens : S → List ℕ → Option F → S → Type 0)
    (state : F → Device) (main : F) (first : Holds) (old new : S) : Type 0 where
  long_file : (opened : List (OpenedFile F)) (reader now : F) (given : List ℕ)
      → OpensEach Opens old opened new → IsRead main opened reader → text_limit < length given
      → Consumes (state reader).octets (state now).octets given
      → IsTooLong Opens state main first old new
  long_text : (stack : StackState) (text : List ℕ)
      → IsReadSoFar Opens state main first old new stack text → text_limit < length text
      → IsTooLong Opens state main first old new

-- Why no more of the files was read: their text has ended; the file that is wanted wasn't opened, which
-- is the last that was tried; the reader of one failed; or 10,000 were included, after which none is
-- wanted.
pub data EndsReading {S F : Type 0} (Opens : S → List ℕ → Option F → S → Type 0)
    (state : F → Device) (main : F) (opened : List (OpenedFile F)) (stack : StackState)
    (before new : S) : Type 0 where
  has_ended : HasEnded stack.innermost.status → new ≡ before
      → EndsReading Opens state main opened stack before new
  not_opened : (name : List ℕ) → wanted_name stack ≡ Some name → Opens before name None new
      → EndsReading Opens state main opened stack before new
  not_read : (reader now : F) → IsRead main opened reader → Fails (state reader) (state now)
      → new ≡ before → EndsReading Opens state main opened stack before new
  too_many : (10000 ≤ length opened) ⊎ (10000 ≤ stack.innermost.holds.opened) → new ≡ before
      → EndsReading Opens state main opened stack before new

-- the files were read so far, and no further for a reason
pub record IsReadNoFurther {S F : Type 0} (Opens : S → List ℕ → Option F → S → Type 0)
    (state : F → Device) (main : F) (first : Holds) (old new : S) (stack : StackState)
    (text : List ℕ) : Type 0 where
  pub before : S
  pub so_far : IsReadSoFar Opens state main first old before stack text
  pub why : EndsReading Opens state main so_far.reads.opened stack before new

-- Files are refused, by what was read of them, where no more was read for a reason.
pub record RefusesRead {S F : Type 0} (Opens : S → List ℕ → Option F → S → Type 0)
    (state : F → Device) (main : F) (directory : Option (List ℕ)) (name : List ℕ)
    (origin : Labels) (old new : S) (refusal : ExpandedRefusal) (stack : StackState)
    : Type 0 where
  pub text : List ℕ
  pub read : IsReadNoFurther Opens state main (at_first directory name origin) old new stack text
  pub refuses : RefusesFor refusal stack origin text

-- Why files give no zone: they are refused, one or their text is too long, or memory was refused.
abbrev pub StopsLoading : {S F : Type 0} → (S → List ℕ → Option F → S → Type 0) → (F → Device) → F
    → Option (List ℕ) → List ℕ → Labels → S → S → FilesStop → Type 0
StopsLoading Opens state main directory name origin old new (told.Files refusal stack) =
    RefusesRead Opens state main directory name origin old new refusal stack
StopsLoading Opens state main directory name origin old new (told.Input (stops.Refused fault place)) =
    (fault ≡ InputTooLong) × (place ≡ Whole)
    × IsTooLong Opens state main (at_first directory name origin) old new
StopsLoading Opens state main directory name origin old new (told.Input stops.Read) = ⊥
StopsLoading Opens state main directory name origin old new (told.Input stops.Write) = ⊥
StopsLoading Opens state main directory name origin old new (told.Input stops.Memory) = Unit {0}

-- ---- a text that is written

-- the expansion went on to the end of the files: no entry has a fault
abbrev pub IsWhole : Ending → Type 0
IsWhole (ends h) = Unit {0}
IsWhole breaks_off = Unit {0}
IsWhole ending = ⊥

-- The expanded text of files was written, and it is whole.
pub record WritesWhole {S F : Type 0} (Opens : S → List ℕ → Option F → S → Type 0)
    (state : F → Device) (main : F) (directory : Option (List ℕ)) (name : List ℕ)
    (origin : Labels) (old new : S) (output output' : Option (List ℕ)) : Type 0 where
  pub octets : List ℕ
  pub files : Files
  pub reads : ReadsPart Opens state main old new octets files
  pub text : List ℕ
  pub ending : Ending
  pub expanded : IsExpanded directory name origin octets files text ending
  pub whole : IsWhole ending
  pub written : Appends output output' text

-- why a text isn't whole: an entry can't be expanded, or a file wasn't read
abbrev pub IsStopOf : ExpandedRefusal → FileStatus → Type 0
IsStopOf (Expansion fault) status = fault_of status ≡ Some fault
IsStopOf Unread status = Unit {0}
IsStopOf (Text refusal) status = ⊥

-- the line `$STOPPED`, which may begin with the end of a line
abbrev pub IsStopLine : List ℕ → Type 0
IsStopLine line = (line ≡ stopped) ⊎ (line ≡ 10 ∷ stopped)

-- What is behind a text that isn't whole: where a fault ended it, nothing, since it has the line `$STOPPED`
-- then; or else that line, or a part of it if the writer failed.
abbrev pub IsBehind : ExpandedRefusal → List ℕ → Type 0 → Type 0
IsBehind (Expansion fault) front fails = front ≡ []
IsBehind refusal front fails =
    IsStopLine front ⊎ ((rest : List ℕ) × IsStopLine (front ++ rest) × fails)

-- The text of the files so far was written, with what is behind it.
pub record WritesInPart {S F : Type 0} (Opens : S → List ℕ → Option F → S → Type 0)
    (state : F → Device) (main : F) (first : Holds) (old new : S) (output output' : Device)
    (refusal : ExpandedRefusal) (stack : StackState) : Type 0 where
  pub text : List ℕ
  pub read : IsReadNoFurther Opens state main first old new stack text
  pub why : IsStopOf refusal stack.innermost.status
  pub front : List ℕ
  pub behind : IsBehind refusal front (Fails output output')
  pub written : Appends output.octets output'.octets (text ++ front)

-- The writer failed, which holds a part of the text so far.
pub record FailsWriting {S F : Type 0} (Opens : S → List ℕ → Option F → S → Type 0)
    (state : F → Device) (main : F) (first : Holds) (old new : S) (output output' : Device)
    : Type 0 where
  pub stack : StackState
  pub text : List ℕ
  pub read : IsReadSoFar Opens state main first old new stack text
  pub written : AppendsPart output.octets output'.octets text
  pub fails : Fails output output'

-- Why files give no whole text, and what was written of it.
abbrev pub StopsExpanding : {S F : Type 0} → (S → List ℕ → Option F → S → Type 0) → (F → Device) → F
    → Option (List ℕ) → List ℕ → Labels → S → S → Device → Device → FilesStop → Type 0
StopsExpanding Opens state main directory name origin old new output output' (told.Files refusal stack) =
    WritesInPart Opens state main (at_first directory name origin) old new output output' refusal stack
StopsExpanding Opens state main directory name origin old new output output' (told.Input (stops.Refused fault place)) =
    (fault ≡ InputTooLong) × (place ≡ Whole)
    × IsTooLong Opens state main (at_first directory name origin) old new
StopsExpanding Opens state main directory name origin old new output output' (told.Input stops.Read) = ⊥
StopsExpanding Opens state main directory name origin old new output output' (told.Input stops.Write) =
    FailsWriting Opens state main (at_first directory name origin) old new output output'
StopsExpanding Opens state main directory name origin old new output output' (told.Input stops.Memory) = Unit {0}
