-- From what is checked and told to what a run of `check` leaves.
use Rattle.std.proofs.Common.{◌≡◌, ◌++◌, true, false, ℕ, zero, suc, ◌<◌, ◌≤◌, List, [], length, arith, subst, sym, refl, ◌∙◌}
use Rattle.std.proofs.KnownBytes.{Keeps-refl}
use Rattle.std.specs.Prelude.{Option, None, Some, min}
use Rattle.std.specs.Io.KnownBytes.{Appends}
use Rattle.clap.specs.Words.{Text}
use Rattle.command_input.specs.Answering.{Answers, Outputs, answered, outputs, unanswered}
use Rattle.zone_name.specs.Common.{Labels, NothingIs}
use Rattle.zone_rdata.specs.Number.{IsCapped, IsDecimal}
use Rattle.zone_rdata.specs.declared.fault.Stop.{Stop}
use Rattle.zone_rdata.specs.declared.fault.Stop.TheVariants.{Memory, Read, Refused, Write}
use Rattle.zone_print.specs.Device.{Device, WorksOn}
use Rattle.zone_print.specs.Writing.{AppendsPart, IsFailedWrite}
use Rattle.zone_engine.specs.Telling.{TellsLine, records_line, stop_line, stop_status}
use Rattle.zone_files.specs.declared.files.stop.FilesStop.TheVariants.{Input}
use Rattle.zone_faults.specs.FoundLine.{found_lines}
use Rattle.zone_faults.specs.declared.finding.CheckEnd.{CheckEnd}
use Rattle.zone_faults.specs.declared.finding.CheckEnd.TheVariants.{Accepted, Enough, Last, Unread}
use Rattle.zone_faults.specs.declared.found_fault.FoundFault.{FoundFault}
use Rattle.zonefile_command.specs.Checks.{AnswersAfter, Checks, TellsAccepted, TellsChecked, TellsEnd, answered_after, faults_line, told, unanswered_after, unchecked, unopened, untold}
use Rattle.zonefile_command.specs.Inputs.{Folder}
use Rattle.zonefile_command.specs.Order.{IsMost}
use Rattle.zonefile_command.specs.Told.{IsStopLine, files_status}

-- ---- a run

module _ {S File : Type 0} (folder : Folder S File) (directory : Option (List ℕ)) (origin : Labels) (path : List ℕ) (most : ℕ) (old new : S) (output errors errors' : Device) where
  pub was_unopened : (status : ℕ) → folder.opens_main old path None new
      → ((line : List ℕ) × IsStopLine [] path (Input Read) line × TellsLine line 4 errors errors' status)
      → Checks folder directory origin path most old new (outputs output output errors errors') status
  was_unopened status opens (line, is, telling) = unopened line status opens is telling (Keeps-refl _, λ w. w)

  pub was_unchecked : (main : File) (begun : S) (stop : Stop) (status : ℕ) → folder.opens_main old path (Some main) begun
      → ((line : List ℕ) × IsStopLine [] path (Input stop) line × TellsLine line (files_status (Input stop)) errors errors' status)
      → Checks folder directory origin path most old new (outputs output output errors errors') status
  was_unchecked main begun stop status opens (line, is, telling) = unchecked main begun stop line status opens is telling (Keeps-refl _, λ w. w)

-- ---- what is told

-- an answer is one behind what was written before
pub after : (line : List ℕ) (answer : ℕ) (o : Outputs) (status : ℕ) → Answers line answer o status → AnswersAfter o.output.octets line answer o status
after line answer o status (answered written works left) = answered_after written works left
after line answer o status (unanswered status' part fails telling) = unanswered_after status' part fails telling

module _ (output between output' errors errors' : Device) (worked : WorksOn output between) where
  answers_on : (line : List ℕ) (answer status : ℕ) → AnswersAfter between.octets line answer (outputs between output' errors errors') status
      → AnswersAfter between.octets line answer (outputs output output' errors errors') status
  answers_on line answer status (answered_after written works left) = answered_after written (λ w. works (worked w)) left
  answers_on line answer status (unanswered_after status' part fails telling) = unanswered_after status' part (λ w. fails (worked w)) telling

  ends_on : (count status : ℕ) (ending : CheckEnd) → TellsEnd between.octets count ending (outputs between output' errors errors') status
      → TellsEnd between.octets count ending (outputs output output' errors errors') status
  ends_on zero status (Accepted records) ends = answers_on (records_line records) 0 status ends
  ends_on (suc count) status (Accepted records) ends = answers_on (faults_line (suc count) false) 3 status ends
  ends_on count status Enough ends = answers_on (faults_line count true) 3 status ends
  ends_on count status Last ends = answers_on (faults_line count false) 3 status ends
  ends_on count status (Unread stack) ends = record { line = ends.line; is = ends.is; telling = ends.telling; keeps = ends.keeps; works = λ w. ends.works (worked w) }

  pub all_told : (faults : List FoundFault) (ending : CheckEnd) (lent : List FoundFault) (count status : ℕ) → lent ≡ faults → count ≡ length faults → Appends output.octets between.octets (found_lines lent)
      → TellsEnd between.octets count ending (outputs between output' errors errors') status → TellsChecked faults ending (outputs output output' errors errors') status
  all_told faults ending lent count status same counted written ends =
      told between.octets status (subst (λ (fs : List FoundFault). Appends output.octets between.octets (found_lines fs)) same written)
      (ends_on (length faults) status ending (subst (λ n. TellsEnd between.octets n ending (outputs between output' errors errors') status) counted ends))

pub part_told : (faults : List FoundFault) (ending : CheckEnd) (output output' errors errors' : Device) (lent : List FoundFault) (why : Stop) (status : ℕ) → lent ≡ faults → AppendsPart output.octets output'.octets (found_lines lent)
    → IsFailedWrite output output' why → TellsLine (stop_line why) (stop_status why) errors errors' status
    → TellsChecked faults ending (outputs output output' errors errors') status
part_told faults ending output output' errors errors' lent (Refused fault place) status same part failed telling = absurd failed
part_told faults ending output output' errors errors' lent Read status same part failed telling = absurd failed
part_told faults ending output output' errors errors' lent Write status same part failed telling =
    untold status (subst (λ (fs : List FoundFault). AppendsPart output.octets output'.octets (found_lines fs)) same part) failed telling
part_told faults ending output output' errors errors' lent Memory status same part failed telling = absurd failed

pub some_faults : (between : Option (List ℕ)) (count records : ℕ) (o : Outputs) (status : ℕ) → (count ≡ 0 → ⊥) → AnswersAfter between (faults_line count false) 3 o status → TellsAccepted between count records o status
some_faults between zero records o status some answers = absurd (some refl)
some_faults between (suc count) records o status some answers = answers

-- ---- how many are asked for

pub is_most : (text : Text) (number : ℕ) → IsCapped (IsDecimal text) number → 0 < number → number < 4294967296 → IsMost (Some text) number
is_most text number (m, both) some fits =
    let capped : number ≡ min 4294967296 m = both.1 in
    let same : m ≡ number = omega (arith, capped, fits) in
    (subst (IsDecimal text) same both.0, some, fits)

pub no_most : (text : Text) → NothingIs (IsDecimal text) → NothingIs (IsMost (Some text))
no_most text none number (is, some, fits) = none number is

pub out_of_range : (text : Text) (number : ℕ) → IsCapped (IsDecimal text) number → (0 < number → number < 4294967296 → ⊥) → NothingIs (IsMost (Some text))
out_of_range text number (m, both) out other (is_other, some, fits) =
    let capped : number ≡ min 4294967296 m = both.1 in
    let same : m ≡ other = both.0.value ∙ sym is_other.value in
    let low : number ≡ other = omega (arith, capped, same, fits) in
    out (omega (arith, low, some)) (omega (arith, low, fits))
