-- From what is read, written and told to what a run leaves.
use Rattle.std.proofs.Common.{◌≡◌, ◌-◌, ◌^◌, ◌++◌, ℕ, List, [], length, refl, subst, sym}
use Rattle.std.proofs.KnownBytes.{Keeps-refl}
use Rattle.std.specs.Prelude.{Option, None, Some, min, string_bytes}
use Rattle.std.specs.Io.KnownBytes.{Appends}
use Rattle.zone_name.specs.Common.{Labels}
use Rattle.zone_rdata.specs.declared.fault.Stop.{Stop}
use Rattle.zone_rdata.specs.declared.fault.Stop.TheVariants.{Memory, Read, Refused, Write}
use Rattle.zone_set.specs.Zone.{Zone}
use Rattle.zone_print.specs.Device.{Device, Fails, WorksOn}
use Rattle.zone_print.specs.Writing.{IsFailedWrite}
use Rattle.zone_engine.specs.Telling.{TellsLine, WritesLine, WritesPartOfLine, part, records_line, stop_line, stop_status, which_words, whole}
use Rattle.zone_engine.specs.declared.comparison.Which.{Which}
use Rattle.command_input.proofs.Answering.{not_answered}
use Rattle.command_input.specs.Answering.{Answers, answered, outputs}
use Rattle.zone_files.specs.Expansion.{Ending, Files, IsExpanded}
use Rattle.zone_files.specs.Reading.{ReadsPart}
use Rattle.zone_files.specs.declared.files.stop.FilesStop.{FilesStop}
use Rattle.zonefile_command.specs.Inputs.{Folder, GivesNone, GivesNoneOfTwo, GivesZone, path_of}
use Rattle.zonefile_command.specs.Run.{AppendsText, Expands, Explains, FailsText, Normalises, StopsText, TellsOneOfTwo, TellsStop, counted, expanded, in_part, no_zone, normalised, refused, unread, unwritten}
use Rattle.zonefile_command.specs.Told.{IsStopLine, TellsUnreadable, UnreadBy, files_status, main_line}
use Rattle.zonefile_command.specs.declared.notation.Notation.{Notation}
use Rattle.zonefile_command.specs.declared.order.FileSource.{FileSource}

-- ---- lines

-- the stop of one write is that the writer failed
pub fails : (old new : Device) (why : Stop) → IsFailedWrite old new why → Fails old new
fails old new (Refused fault place) failed = absurd failed
fails old new Read failed = absurd failed
fails old new Write failed = failed
fails old new Memory failed = absurd failed

-- all but a failed reader is told of the file of the command line as of any input
pub main_as_input : (words path : List ℕ) (stop : Stop) → (stop ≡ Read → ⊥) → main_line words path stop ≡ words ++ stop_line stop
main_as_input words path (Refused fault place) other = refl
main_as_input words path Read other = absurd (other refl)
main_as_input words path Write other = refl
main_as_input words path Memory other = refl

-- the file that can't be read is the one that is wanted, or the innermost one
pub by_name : (wanted : Option (List ℕ)) (name : List ℕ) (Written : List ℕ → Type 0) → Some name ≡ wanted
    → ((line : List ℕ) × TellsUnreadable name line × Written line) → (line : List ℕ) × UnreadBy wanted line × Written line
by_name wanted name Written is (line, told, written) = (line, subst (λ (w : Option (List ℕ)). UnreadBy w line) is told, written)

pub of_innermost : (wanted : Option (List ℕ)) (name : List ℕ) (Written : List ℕ → Type 0) → None ≡ wanted
    → ((line : List ℕ) × TellsUnreadable name line × Written line) → (line : List ℕ) × UnreadBy wanted line × Written line
of_innermost wanted name Written is (line, told, written) = (line, subst (λ (w : Option (List ℕ)). UnreadBy w line) is (name, told), written)

module _ (words path : List ℕ) (stop : FilesStop) where
  pub stop_told : (old new : Device) (status : ℕ) → status ≡ files_status stop → ((line : List ℕ) × IsStopLine words path stop line × WritesLine line old new)
      → WorksOn old new → (line : List ℕ) × IsStopLine words path stop line × TellsLine line (files_status stop) old new status
  stop_told old new status is (line, of, written) works = (line, of, subst (λ (s : ℕ). TellsLine line (files_status stop) old new s) (sym is) (whole written works))

  pub stop_untold : (old new : Device) (why : Stop) → ((line : List ℕ) × IsStopLine words path stop line × WritesPartOfLine line old new)
      → IsFailedWrite old new why → (line : List ℕ) × IsStopLine words path stop line × TellsLine line (files_status stop) old new 4
  stop_untold old new why (line, of, written) failed = (line, of, part written (fails old new why failed))

  pub refusal_told : (output output' errors : Device) → ((line : List ℕ) × IsStopLine words path stop line × WritesLine line output output') → WorksOn output output'
      → (line : List ℕ) × IsStopLine words path stop line × Answers line 3 (outputs output output' errors errors) 3
  refusal_told output output' errors (line, of, written) works = (line, of, answered written works (Keeps-refl _, λ w. w))

  pub refusal_untold : (output output' errors errors' : Device) (why : Stop) (status : ℕ) → ((line : List ℕ) × IsStopLine words path stop line × WritesPartOfLine line output output')
      → IsFailedWrite output output' why → TellsLine (stop_line why) (stop_status why) errors errors' status
      → (line : List ℕ) × IsStopLine words path stop line × Answers line 3 (outputs output output' errors errors') status
  refusal_untold output output' errors errors' why status (line, of, written) failed told =
      (line, of, not_answered line 3 output output' errors errors' why status written failed told)

-- ---- orders

-- what is told of an input that gives no zone, without a line on standard output
told_stop : (words path text : List ℕ) (stop : FilesStop) (output errors errors' : Device) (status : ℕ) → text ≡ path
    → ((line : List ℕ) × IsStopLine words text stop line × TellsLine line (files_status stop) errors errors' status)
    → TellsStop words path stop (outputs output output errors errors') status
told_stop words path text stop output errors errors' status same (line, of, told) = record {
  line = line;
  is = subst (λ (t : List ℕ). IsStopLine words t stop line) same of;
  told = told;
  output = (Keeps-refl _, λ w. w);
}

module _ {S File : Type 0} (folder : Folder S File) (directory : Option (List ℕ)) (output output' errors errors' : Device) where
  module _ (source : FileSource) (old new : S) (text : List ℕ) (same : text ≡ string_bytes source.file) where
    pub counts : (z : Zone) (count status : ℕ) → GivesZone folder directory source old new z → count ≡ min (length z.records) (2 ^ 64 - 1)
        → Answers (records_line count) 0 (outputs output output' errors errors') status
        → Explains folder directory source old new (outputs output output' errors errors') status
    counts z count status gives is answers =
        counted z status gives (subst (λ (n : ℕ). Answers (records_line n) 0 (outputs output output' errors errors') status) is answers)

    pub refuses : (stop : FilesStop) (status : ℕ) → GivesNone folder directory source old new stop → files_status stop ≡ 3
        → ((line : List ℕ) × IsStopLine [] text stop line × Answers line 3 (outputs output output' errors errors') status)
        → Explains folder directory source old new (outputs output output' errors errors') status
    refuses stop status none is (line, of, answers) =
        refused stop line status none is (subst (λ (t : List ℕ). IsStopLine [] t stop line) same of) answers

    pub can_not_read : (stop : FilesStop) (status : ℕ) → GivesNone folder directory source old new stop → (files_status stop ≡ 3 → ⊥)
        → ((line : List ℕ) × IsStopLine [] text stop line × TellsLine line (files_status stop) errors errors' status)
        → Explains folder directory source old new (outputs output output errors errors') status
    can_not_read stop status none isnt told = unread stop status none isnt (told_stop [] (string_bytes source.file) text stop output errors errors' status same told)

    pub normalises : (notation : Notation) (z : Zone) → GivesZone folder directory source old new z → AppendsText notation z output output' → WorksOn output output'
        → Normalises folder directory source notation old new (outputs output output' errors errors) 0
    normalises notation z gives written works = normalised z gives (record { text = written; works = works; errors = (Keeps-refl _, λ w. w) })

    pub does_not_write : (notation : Notation) (z : Zone) (why : Stop) (status : ℕ) → GivesZone folder directory source old new z → StopsText notation z output output' why
        → TellsLine (stop_line why) (stop_status why) errors errors' status
        → Normalises folder directory source notation old new (outputs output output' errors errors') status
    does_not_write notation z why status gives stopped told = unwritten z status gives (record { stop = why; stopped = stopped; told = told })

    pub gives_none : (notation : Notation) (stop : FilesStop) (status : ℕ) → GivesNone folder directory source old new stop
        → ((line : List ℕ) × IsStopLine [] text stop line × TellsLine line (files_status stop) errors errors' status)
        → Normalises folder directory source notation old new (outputs output output errors errors') status
    gives_none notation stop status none told = no_zone stop status none (told_stop [] (string_bytes source.file) text stop output errors errors' status same told)

  pub expands : (origin : Labels) (old begun new : S) (main : File) (text : List ℕ) → folder.opens_main old text (Some main) begun
      → ((octets : List ℕ) × (tree : Files) × (made : List ℕ) × (ending : Ending) × ReadsPart folder.opens folder.device main begun new octets tree
      × IsExpanded directory text origin octets tree made ending × Appends output.octets output'.octets made)
      → Expands folder directory origin text old new (outputs output output' errors errors) 0
  expands origin old begun new main text opens (octets, tree, made, ending, reads, is, written) =
      expanded main begun octets tree made ending opens reads is written (Keeps-refl _, λ w. w)

  pub expands_in_part : (origin : Labels) (path : List ℕ) (old new : S) (stop : FilesStop) (status : ℕ)
      → ((line : List ℕ) × IsStopLine [] path stop line × TellsLine line (files_status stop) errors errors' status)
      → Expands folder directory origin path old new (outputs output output' errors errors') status
  expands_in_part origin path old new stop status (line, of, told) = in_part stop line status of told

  -- which of two inputs gives no zone is told
  pub tells_one : (first second : FileSource) (old new : S) (which : Which) (stop : FilesStop) (status : ℕ) → GivesNoneOfTwo folder directory first second old new which stop
      → ((line : List ℕ) × IsStopLine (which_words which) (path_of first second which) stop line × TellsLine line (files_status stop) errors errors' status)
      → TellsOneOfTwo folder directory first second old new (outputs output output errors errors') status
  tells_one first second old new which stop status none told = record {
    which = which;
    stop = stop;
    none = none;
    told = told_stop (which_words which) (path_of first second which) (path_of first second which) stop output errors errors' status refl told;
  }
