-- What a run of an order reads, writes and returns (this project's own).
use Rattle.std.specs.Prelude.{◌≡◌, ◌-◌, ◌^◌, ℕ, Bool, if◌then◌else◌, List, [], length, min, option_map, string_bytes, Option, Some}
use Rattle.std.specs.Io.KnownBytes.{Appends}
use Rattle.zone_name.specs.Common.{Labels}
use Rattle.zone_rdata.specs.declared.fault.Stop.{Stop}
use Rattle.zone_set.specs.Zone.{Zone}
use Rattle.zone_print.specs.Canonical.{canon, text_limit}
use Rattle.zone_print.specs.Device.{Device, IsLeft, WorksOn}
use Rattle.zone_print.specs.Writing.{StopsWrite}
use Rattle.zone_engine.specs.Compare.{IsVerdictOnTexts}
use Rattle.zone_engine.specs.Telling.{TellsLine, records_line, stop_line, stop_status, verdict_line, verdict_status, which_words}
use Rattle.zone_engine.specs.declared.comparison.Verdict.{Verdict}
use Rattle.zone_engine.specs.declared.comparison.Which.{Which}
use Rattle.zone_difference.specs.Difference.{AreChanges, Change}
use Rattle.zone_difference.specs.Text.{IsWriteStop, WritesPart, changes_text, is_some_change}
use Rattle.zone_difference.specs.declared.name_case.NameCase.{NameCase}
use Rattle.command_input.specs.Answering.{Answers, Outputs}
use Rattle.words_print.specs.Shown.{IsShownText}
use Rattle.zone_files.specs.Expansion.{Ending, Files, IsExpanded}
use Rattle.zone_files.specs.Reading.{ReadsPart}
use Rattle.zone_files.specs.declared.files.stop.FilesStop.{FilesStop}
use Rattle.zonefile_command.specs.Checks.{Checks}
use Rattle.zonefile_command.specs.Inputs.{Folder, GiveZones, GivesNone, GivesNoneOfTwo, GivesZone, path_of}
use Rattle.zonefile_command.specs.Presented.{StopsPresenting, StopsShowing}
use Rattle.zonefile_command.specs.Told.{IsStopLine, files_status}
use Rattle.zonefile_command.specs.declared.notation.Notation.{Notation}
use Rattle.zonefile_command.specs.declared.notation.Notation.TheVariants.{Generic, Presentation}
use Rattle.zonefile_command.specs.declared.order.Action.{Action}
use Rattle.zonefile_command.specs.declared.order.Action.TheVariants.{Normalise, Explain, Compare, Difference, Check, Expand}
use Rattle.zonefile_command.specs.declared.order.DifferenceForm.{DifferenceForm}
use Rattle.zonefile_command.specs.declared.order.FileSource.{FileSource}
use Rattle.zonefile_command.specs.declared.order.Order.{Order}

-- ---- what is written

-- the text of a zone in a notation: the canonical text, or what is shown for it
abbrev pub IsTextOf : Notation → Zone → List ℕ → Type 0
IsTextOf Generic z text = text ≡ canon z
IsTextOf Presentation z text = IsShownText (canon z) text

-- the text of a zone was written
pub record AppendsText (notation : Notation) (z : Zone) (old new : Device) : Type 0 where
  pub text : List ℕ
  pub is : IsTextOf notation z text
  pub written : Appends old.octets new.octets text

-- that and nothing else
pub record WritesText (notation : Notation) (z : Zone) (o : Outputs) : Type 0 where
  pub text : AppendsText notation z o.output o.output'
  pub works : WorksOn o.output o.output'
  pub errors : IsLeft o.errors o.errors'

-- what is left where a text isn't written whole
abbrev pub StopsText : Notation → Zone → Device → Device → Stop → Type 0
StopsText Generic z output output' stop = StopsWrite text_limit (canon z) output output' stop
StopsText Presentation z output output' stop = StopsPresenting (canon z) output output' stop

-- the text wasn't written whole, and this is told with its status
pub record FailsText (notation : Notation) (z : Zone) (o : Outputs) (status : ℕ) : Type 0 where
  pub stop : Stop
  pub stopped : StopsText notation z o.output o.output' stop
  pub told : TellsLine (stop_line stop) (stop_status stop) o.errors o.errors' status

-- why an input gives no zone is told, after these words, and nothing is written
pub record TellsStop (words path : List ℕ) (stop : FilesStop) (o : Outputs) (status : ℕ) : Type 0
  where
    pub line : List ℕ
    pub is : IsStopLine words path stop line
    pub told : TellsLine line (files_status stop) o.errors o.errors' status
    pub output : IsLeft o.output o.output'

-- ---- the changes from one zone to another

-- the text of changes in a notation: a line for each, or what is shown for them
abbrev pub IsTextOfChanges : Notation → List Change → List ℕ → Type 0
IsTextOfChanges Generic changes text = text ≡ changes_text changes
IsTextOfChanges Presentation changes text = IsShownText (changes_text changes) text

-- the status of a difference: 1 if the zones differ, else 0
abbrev pub difference_status : Bool → ℕ
difference_status differ = if differ then 1 else 0

-- the changes from one zone to another were written, if the zones differ
pub record WritesTextOfChanges (case : NameCase) (notation : Notation) (z other : Zone)
    (old new : Device) (differ : Bool) : Type 0 where
  pub changes : List Change
  pub are : AreChanges case z.records other.records changes
  pub text : List ℕ
  pub is : IsTextOfChanges notation changes text
  pub written : Appends old.octets new.octets text
  pub works : WorksOn old new
  pub some : differ ≡ is_some_change changes

-- what is left where the changes aren't written whole
abbrev pub StopsChanges : NameCase → Notation → Zone → Zone → Device → Device → Stop → Type 0
StopsChanges case Generic z other output output' stop =
    WritesPart case z.records other.records output.octets output'.octets
    × IsWriteStop output output' stop
StopsChanges case Presentation z other output output' stop =
    (changes : List Change) × AreChanges case z.records other.records changes
    × StopsShowing (changes_text changes) output output' stop

-- The changes were written, and nothing else, with the status of them. Or they weren't written whole,
-- and this is told with its status.
pub data TellsChanges (form : DifferenceForm) (z other : Zone) (o : Outputs) : ℕ → Type 0 where
  written_whole : (differ : Bool)
      → WritesTextOfChanges form.name_case form.notation z other o.output o.output' differ
      → IsLeft o.errors o.errors' → TellsChanges form z other o (difference_status differ)
  written_in_part : (stop : Stop) (status : ℕ)
      → StopsChanges form.name_case form.notation z other o.output o.output' stop
      → TellsLine (stop_line stop) (stop_status stop) o.errors o.errors' status
      → TellsChanges form z other o status

-- ---- orders

-- The text of the zone is written with status 0. Or it can't be written whole; or the input gives no
-- zone: then a line says why.
pub data Normalises {S File : Type 0} (folder : Folder S File) (directory : Option (List ℕ))
    (source : FileSource) (notation : Notation) (old new : S) (o : Outputs) : ℕ → Type 0 where
  normalised : (z : Zone) → GivesZone folder directory source old new z → WritesText notation z o
      → Normalises folder directory source notation old new o 0
  unwritten : (z : Zone) (status : ℕ) → GivesZone folder directory source old new z
      → FailsText notation z o status
      → Normalises folder directory source notation old new o status
  no_zone : (stop : FilesStop) (status : ℕ) → GivesNone folder directory source old new stop
      → TellsStop [] (string_bytes source.file) stop o status
      → Normalises folder directory source notation old new o status

-- How many records the zone has is written with status 0, or why the input is refused with status 3.
-- If it can't be read, or memory was refused, a line says so.
pub data Explains {S File : Type 0} (folder : Folder S File) (directory : Option (List ℕ))
    (source : FileSource) (old new : S) (o : Outputs) : ℕ → Type 0 where
  counted : (z : Zone) (status : ℕ) → GivesZone folder directory source old new z
      → Answers (records_line (min (length z.records) (2 ^ 64 - 1))) 0 o status
      → Explains folder directory source old new o status
  refused : (stop : FilesStop) (line : List ℕ) (status : ℕ)
      → GivesNone folder directory source old new stop → files_status stop ≡ 3
      → IsStopLine [] (string_bytes source.file) stop line → Answers line 3 o status
      → Explains folder directory source old new o status
  unread : (stop : FilesStop) (status : ℕ) → GivesNone folder directory source old new stop
      → (files_status stop ≡ 3 → ⊥) → TellsStop [] (string_bytes source.file) stop o status
      → Explains folder directory source old new o status

-- Why one of two inputs gives no zone is told, and nothing is written.
pub record TellsOneOfTwo {S File : Type 0} (folder : Folder S File) (directory : Option (List ℕ))
    (first second : FileSource) (old new : S) (o : Outputs) (status : ℕ) : Type 0 where
  pub which : Which
  pub stop : FilesStop
  pub none : GivesNoneOfTwo folder directory first second old new which stop
  pub told : TellsStop (which_words which) (path_of first second which) stop o status

-- The verdict on the canonical texts of both zones is written: `same` with status 0, exactly if both
-- inputs denote one zone, or the first line that differs with status 1. Of two inputs the first that
-- gives no zone is told.
pub data Compares {S File : Type 0} (folder : Folder S File) (directory : Option (List ℕ))
    (first second : FileSource) (old new : S) (o : Outputs) : ℕ → Type 0 where
  judged : (z other : Zone) (verdict : Verdict) (status : ℕ)
      → GiveZones folder directory first second old new z other
      → IsVerdictOnTexts verdict (canon z) (canon other)
      → Answers (verdict_line verdict) (verdict_status verdict) o status
      → Compares folder directory first second old new o status
  not_compared : (status : ℕ) → TellsOneOfTwo folder directory first second old new o status
      → Compares folder directory first second old new o status

-- The changes from the first zone to the second are written, with status 0 if there are none, and 1 if
-- there are. Or they can't be written whole. Of two inputs the first that gives no zone is told.
pub data ShowsDifference {S File : Type 0} (folder : Folder S File) (directory : Option (List ℕ))
    (first second : FileSource) (form : DifferenceForm) (old new : S) (o : Outputs) : ℕ → Type 0
  where
    shown : (z other : Zone) (status : ℕ)
        → GiveZones folder directory first second old new z other
        → TellsChanges form z other o status
        → ShowsDifference folder directory first second form old new o status
    not_shown : (status : ℕ) → TellsOneOfTwo folder directory first second old new o status
        → ShowsDifference folder directory first second form old new o status

-- The expanded text of the file and those that it includes is written with status 0. Or a line says why
-- it isn't whole.
pub data Expands {S File : Type 0} (folder : Folder S File) (directory : Option (List ℕ))
    (origin : Labels) (path : List ℕ) (old new : S) (o : Outputs) : ℕ → Type 0 where
  expanded : (main : File) (begun : S) (octets : List ℕ) (tree : Files) (text : List ℕ)
      (ending : Ending) → folder.opens_main old path (Some main) begun
      → ReadsPart folder.opens folder.device main begun new octets tree
      → IsExpanded directory path origin octets tree text ending
      → Appends o.output.octets o.output'.octets text → IsLeft o.errors o.errors'
      → Expands folder directory origin path old new o 0
  in_part : (stop : FilesStop) (line : List ℕ) (status : ℕ) → IsStopLine [] path stop line
      → TellsLine line (files_status stop) o.errors o.errors' status
      → Expands folder directory origin path old new o status

-- what a run of an order leaves, with its exit status
abbrev pub RunsAction : {S File : Type 0} → Folder S File → Option (List ℕ) → S → S → Outputs → ℕ → Action → Type 0
RunsAction folder directory old new o status (Normalise source notation) =
    Normalises folder directory source notation old new o status
RunsAction folder directory old new o status (Explain source) =
    Explains folder directory source old new o status
RunsAction folder directory old new o status (Compare first second) =
    Compares folder directory first second old new o status
RunsAction folder directory old new o status (Difference first second form) =
    ShowsDifference folder directory first second form old new o status
RunsAction folder directory old new o status (Check origin path most) =
    Checks folder directory origin (string_bytes path) most old new o status
RunsAction folder directory old new o status (Expand origin path) =
    Expands folder directory origin (string_bytes path) old new o status

abbrev pub Runs : {S File : Type 0} → Folder S File → Order → S → S → Outputs → ℕ → Type 0
Runs folder order old new o status =
    RunsAction folder (option_map string_bytes order.directory) old new o status order.action
