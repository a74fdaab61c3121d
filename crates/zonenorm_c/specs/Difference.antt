-- What the difference of two inputs answers (this project's own).
use Rattle.std.specs.List.{flat_map}
use Rattle.std.specs.Prelude.{◌≡◌, ◌<◌, ◌≤◌, ◌+◌, ◌-◌, ◌/◌, ◌%◌, ◌^◌, ◌==◌, if◌then◌else◌, ℕ, List, [], ◌∷◌, length, min}
use Rattle.zone_difference.specs.Difference.{IsDifference}
use Rattle.zone_difference.specs.declared.name_case.NameCase.{NameCase}
use Rattle.zone_difference.specs.declared.name_case.NameCase.TheVariants.{Exact, Folded}
use Rattle.zone_digest.specs.Digest.{record_octets}
use Rattle.zone_engine.specs.Compare.{StopsCompareBytes}
use Rattle.zone_engine.specs.Input.{Input, InputDenotes}
use Rattle.zone_engine.specs.declared.comparison.Which.{Which}
use Rattle.zone_engine.specs.declared.comparison.Which.TheVariants.{First, Second}
use Rattle.zone_print.specs.Canonical.{line}
use Rattle.zone_rdata.specs.Record.{Record}
use Rattle.zone_rdata.specs.declared.fault.Fault.{Fault}
use Rattle.zone_rdata.specs.declared.fault.Place.{Place}
use Rattle.zone_rdata.specs.declared.fault.Stop.{Stop}
use Rattle.zone_rdata.specs.declared.fault.Stop.TheVariants.{Refused}
use Rattle.zone_set.specs.Zone.{Zone}
use Rattle.zonenorm_c.specs.Answering.{IsHalt, ReportsHalt, ReportsLine, ReportsUnread}
use Rattle.zonenorm_c.specs.Compare.{given_of, number_of}
use Rattle.zonenorm_c.specs.Giving.{DenotesGiven, IsReadAs, IsUnread}
use Rattle.zonenorm_c.specs.declared.answer.Answer.{Answer}
use Rattle.zonenorm_c.specs.declared.differing.RecordForm.{RecordForm}
use Rattle.zonenorm_c.specs.declared.differing.RecordForm.TheVariants.{Line, Wire}
use Rattle.zonenorm_c.specs.declared.given.Given.{Given}
use Rattle.zonenorm_c.specs.declared.given.Unread.{Unread}
use Rattle.zonenorm_c.specs.declared.zone.Halt.{Halt}

-- flag 1 asks for records in octets, flag 2 for names in data to be compared without regard to case
abbrev pub form_of : ℕ → RecordForm
form_of flags = if flags % 2 == 1 then Wire else Line

abbrev pub case_of : ℕ → NameCase
case_of flags = if flags / 2 == 1 then Folded else Exact

-- a record as its canonical line, or as an uncompressed message has it
abbrev pub form_octets : RecordForm → Record → List ℕ
form_octets Line r = line r
form_octets Wire r = record_octets r

-- the status: 0 where no record goes and none comes, else 1
abbrev pub difference_status : List Record → List Record → ℕ
difference_status [] [] = 0
difference_status gone come = 1

-- the texts are those of the records that go and those that come from one zone to another
pub record AreTexts (case : NameCase) (form : RecordForm) (records others : List Record)
    (removed added : List ℕ) (answer : Answer) : Type 0 where
  pub gone : List Record
  pub come : List Record
  pub difference : IsDifference case records others gone come
  pub removed_are : removed ≡ flat_map (form_octets form) gone
  pub added_are : added ≡ flat_map (form_octets form) come
  pub status : answer.status ≡ difference_status gone come
  pub count : answer.count ≡ min (length gone + length come) (2 ^ 64 - 1)

-- the report on the input that stopped the call: the line of its refusal is the first text; or an
-- allocation failed
pub data ReportsStop (stop : Stop) (which : Which) (removed added : List ℕ) (answer : Answer) : Type 0
  where
    refused : (fault : Fault) (place : Place) → stop ≡ Refused fault place
        → ReportsLine fault place removed answer → answer.input ≡ number_of which → added ≡ []
        → ReportsStop stop which removed added answer
    out_of_memory : answer.status ≡ 4 → removed ≡ [] → added ≡ []
        → ReportsStop stop which removed added answer

-- the report on the input that isn't read
abbrev pub ReportsUnreadOf : Unread → Which → List ℕ → List ℕ → Answer → Type 0
ReportsUnreadOf why which removed added answer =
    ReportsUnread why removed answer × (answer.input ≡ number_of which)
    × (added ≡ [])

-- what the difference of these inputs answers: the records that go and those that come; one input
-- stopped the call; or an allocation failed
pub data AnswersDifference (case : NameCase) (form : RecordForm) (first second : Input)
    (removed added : List ℕ) (answer : Answer) : Type 0 where
  differ : (z w : Zone) → InputDenotes first z → InputDenotes second w
      → AreTexts case form z.records w.records removed added answer
      → AnswersDifference case form first second removed added answer
  stopped : (which : Which) (stop : Stop) → StopsCompareBytes first second which stop
      → ReportsStop stop which removed added answer
      → AnswersDifference case form first second removed added answer
  no_memory : answer.status ≡ 4 → removed ≡ [] → added ≡ []
      → AnswersDifference case form first second removed added answer

-- What is answered on the inputs that are given: the first that isn't read is reported. If one has other
-- files, both are read one after the other, and the first that denotes no zone is reported.
pub data AnswersGivens (case : NameCase) (form : RecordForm) (first second : Given)
    (removed added : List ℕ) (answer : Answer) : Type 0 where
  compared : (input other : Input) → IsReadAs first input → IsReadAs second other
      → AnswersDifference case form input other removed added answer
      → AnswersGivens case form first second removed added answer
  first_unread : (why : Unread) → IsUnread first why
      → ReportsUnreadOf why First removed added answer
      → AnswersGivens case form first second removed added answer
  second_unread : (why : Unread) → IsUnread second why
      → ReportsUnreadOf why Second removed added answer
      → AnswersGivens case form first second removed added answer
  of_zones : (z w : Zone) → DenotesGiven first z → DenotesGiven second w
      → AreTexts case form z.records w.records removed added answer
      → AnswersGivens case form first second removed added answer
  no_zone : (which : Which) (halt : Halt) → IsHalt (given_of first second which) halt
      → ReportsHalt halt removed answer → answer.input ≡ number_of which → added ≡ []
      → AnswersGivens case form first second removed added answer
  out_of_room : answer.status ≡ 4 → removed ≡ [] → added ≡ []
      → AnswersGivens case form first second removed added answer

-- what is answered by the flags of the call; this library has no others
pub data AnswersDiff (flags : ℕ) (first second : Given) (removed added : List ℕ)
    (answer : Answer) : Type 0 where
  asked : flags < 4
      → AnswersGivens (case_of flags) (form_of flags) first second removed added answer
      → AnswersDiff flags first second removed added answer
  other_flags : 4 ≤ flags → answer.status ≡ 5 → removed ≡ [] → added ≡ []
      → AnswersDiff flags first second removed added answer
