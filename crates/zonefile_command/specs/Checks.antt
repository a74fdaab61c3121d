-- What a run of `check` reads, writes and returns (this project's own).
use Rattle.std.specs.Prelude.{ℕ, zero, suc, ◌==◌, Bool, true, false, if◌then◌else◌, List, [], ◌∷◌, ◌++◌, codes, decimal, length, Option, Some, None}
use Rattle.std.specs.Io.KnownBytes.{Appends, Keeps}
use Rattle.zone_name.specs.Common.{Labels}
use Rattle.zone_rdata.specs.declared.fault.Stop.{Stop}
use Rattle.zone_rdata.specs.declared.fault.Stop.TheVariants as stops
use Rattle.zone_print.specs.Device.{Fails, IsLeft, WorksOn}
use Rattle.zone_print.specs.Writing.{AppendsPart}
use Rattle.zone_engine.specs.Telling.{TellsLine, records_line, stop_line}
use Rattle.command_input.specs.Answering.{Outputs}
use Rattle.zone_files.specs.declared.files.stop.FilesStop.{FilesStop}
use Rattle.zone_files.specs.declared.files.stop.FilesStop.TheVariants as files_stops
use Rattle.zone_files.specs.IncludeStack.{StackState}
use Rattle.zone_faults.specs.Checking.{AreFaults, main_file}
use Rattle.zone_faults.specs.FoundLine.{found_lines}
use Rattle.zone_faults.specs.declared.finding.CheckEnd.{CheckEnd}
use Rattle.zone_faults.specs.declared.finding.CheckEnd.TheVariants.{Accepted, Enough, Last, Unread}
use Rattle.zone_faults.specs.declared.found_fault.FoundFault.{FoundFault}
use Rattle.zonefile_command.specs.Inputs.{Folder}
use Rattle.zonefile_command.specs.Told.{IsStopLine, TellsUnread, files_status}

-- what stands behind the number of faults
abbrev pub faults_words : ℕ → Bool → List ℕ
faults_words count or_more =
    if or_more then (if count == 1 then codes " fault or more" else codes " faults or more")
    else (if count == 1 then codes " fault" else codes " faults")

-- `1 fault`, `3 faults`, `20 faults or more`
abbrev pub faults_line : ℕ → Bool → List ℕ
faults_line count or_more = decimal count ++ faults_words count or_more

-- Behind these octets a line was written with this status. Or the writer failed after a proper prefix
-- of it, which is told with status 4.
pub data AnswersAfter (between : Option (List ℕ)) (line : List ℕ) (answer : ℕ) (o : Outputs)
    : ℕ → Type 0 where
  answered_after : Appends between o.output'.octets (line ++ 10 ∷ []) → WorksOn o.output o.output'
      → IsLeft o.errors o.errors' → AnswersAfter between line answer o answer
  unanswered_after : (status : ℕ) → AppendsPart between o.output'.octets (line ++ 10 ∷ [])
      → Fails o.output o.output' → TellsLine (stop_line stops.Write) 4 o.errors o.errors' status
      → AnswersAfter between line answer o status

-- how many records the zone has, with status 0; or how many faults there are, with status 3
abbrev pub TellsAccepted : Option (List ℕ) → ℕ → ℕ → Outputs → ℕ → Type 0
TellsAccepted between zero records o status =
    AnswersAfter between (records_line records) 0 o status
TellsAccepted between (suc count) records o status =
    AnswersAfter between (faults_line (suc count) false) 3 o status

-- a file can't be read, which is told
pub record TellsUnreadAfter (between : Option (List ℕ)) (stack : StackState) (o : Outputs)
    (status : ℕ) : Type 0 where
  pub line : List ℕ
  pub is : TellsUnread stack line
  pub telling : TellsLine line 4 o.errors o.errors' status
  pub keeps : Keeps between o.output'.octets
  pub works : WorksOn o.output o.output'

-- what is told behind so many faults, by why there is no further one
abbrev pub TellsEnd : Option (List ℕ) → ℕ → CheckEnd → Outputs → ℕ → Type 0
TellsEnd between count (Accepted records) o status = TellsAccepted between count records o status
TellsEnd between count Enough o status = AnswersAfter between (faults_line count true) 3 o status
TellsEnd between count Last o status = AnswersAfter between (faults_line count false) 3 o status
TellsEnd between count (Unread stack) o status = TellsUnreadAfter between stack o status

-- The line of each fault is written, and how many they are. Or the writer failed after a proper prefix
-- of these lines, which is told with status 4.
pub data TellsChecked (faults : List FoundFault) (ending : CheckEnd) (o : Outputs) : ℕ → Type 0 where
  told : (between : Option (List ℕ)) (status : ℕ)
      → Appends o.output.octets between (found_lines faults)
      → TellsEnd between (length faults) ending o status → TellsChecked faults ending o status
  untold : (status : ℕ) → AppendsPart o.output.octets o.output'.octets (found_lines faults)
      → Fails o.output o.output' → TellsLine (stop_line stops.Write) 4 o.errors o.errors' status
      → TellsChecked faults ending o status

-- The faults of the file and those that it includes are told. Or a line says that it can't be opened,
-- or why it wasn't checked, and nothing is written.
pub data Checks {S File : Type 0} (folder : Folder S File) (directory : Option (List ℕ))
    (origin : Labels) (path : List ℕ) (most : ℕ) (old new : S) (o : Outputs) : ℕ → Type 0 where
  checked : (main : File) (begun : S) (faults : List FoundFault) (ending : CheckEnd) (status : ℕ)
      → folder.opens_main old path (Some main) begun
      → AreFaults (main_file directory path origin) most faults ending
      → TellsChecked faults ending o status
      → Checks folder directory origin path most old new o status
  unopened : (line : List ℕ) (status : ℕ) → folder.opens_main old path None new
      → IsStopLine [] path (files_stops.Input stops.Read) line
      → TellsLine line 4 o.errors o.errors' status → IsLeft o.output o.output'
      → Checks folder directory origin path most old new o status
  unchecked : (main : File) (begun : S) (stop : Stop) (line : List ℕ) (status : ℕ)
      → folder.opens_main old path (Some main) begun
      → IsStopLine [] path (files_stops.Input stop) line
      → TellsLine line (files_status (files_stops.Input stop)) o.errors o.errors' status
      → IsLeft o.output o.output' → Checks folder directory origin path most old new o status
