-- What comparing two inputs answers (this project's own).
use Rattle.std.specs.Prelude.{◌≡◌, ℕ, List, []}
use Rattle.zone_rdata.specs.declared.fault.Fault.{Fault}
use Rattle.zone_rdata.specs.declared.fault.Place.{Place}
use Rattle.zone_rdata.specs.declared.fault.Stop.TheVariants.{Refused}
use Rattle.zone_set.specs.Zone.{Zone}
use Rattle.zone_print.specs.Canonical.{canon}
use Rattle.zone_engine.specs.Compare.{Compares, IsVerdictOnTexts, StopsCompareBytes}
use Rattle.zone_engine.specs.Headline.{DenoteOne}
use Rattle.zone_engine.specs.Input.{Input}
use Rattle.zone_engine.specs.declared.comparison.Verdict.{Verdict}
use Rattle.zone_engine.specs.declared.comparison.Verdict.TheVariants.{Different, Same}
use Rattle.zone_engine.specs.declared.comparison.Which.{Which}
use Rattle.zone_engine.specs.declared.comparison.Which.TheVariants.{First, Second}
use Rattle.zonenorm_c.specs.Answering.{IsHalt, ReportsHalt, ReportsLine, ReportsUnread}
use Rattle.zonenorm_c.specs.Giving.{DenotesGiven, IsReadAs, IsUnread}
use Rattle.zonenorm_c.specs.declared.answer.Answer.{Answer}
use Rattle.zonenorm_c.specs.declared.given.Given.{Given}
use Rattle.zonenorm_c.specs.declared.given.Unread.{Unread}
use Rattle.zonenorm_c.specs.declared.zone.Halt.{Halt}

abbrev pub number_of : Which → ℕ
number_of First = 1
number_of Second = 2

-- what comparing these inputs answers: they denote one zone; their texts differ first at a line; one
-- is refused; or an allocation failed
pub data AnswersOfInputs (first second : Input) (text : List ℕ) (answer : Answer) : Type 0 where
  same : DenoteOne first second → answer.status ≡ 0 → text ≡ []
      → AnswersOfInputs first second text answer
  different : (line : ℕ) → Compares first second (Different line) → answer.status ≡ 1
      → answer.line ≡ line → text ≡ [] → AnswersOfInputs first second text answer
  stopped : (which : Which) (fault : Fault) (place : Place)
      → StopsCompareBytes first second which (Refused fault place)
      → ReportsLine fault place text answer → answer.input ≡ number_of which
      → AnswersOfInputs first second text answer
  no_memory : answer.status ≡ 4 → text ≡ [] → AnswersOfInputs first second text answer

-- the status of a verdict, and the first line that differs
abbrev pub ReportsVerdict : Verdict → List ℕ → Answer → Type 0
ReportsVerdict Same text answer = (answer.status ≡ 0) × (text ≡ [])
ReportsVerdict (Different line) text answer =
    (answer.status ≡ 1) × (answer.line ≡ line) × (text ≡ [])

-- one of two inputs
abbrev pub given_of : Given → Given → Which → Given
given_of first second First = first
given_of first second Second = second

-- What is answered on the inputs that are given: the first that isn't read is reported. If one has other
-- files, both are read one after the other, and the first that denotes no zone is reported.
pub data AnswersCompare (first second : Given) (text : List ℕ) (answer : Answer) : Type 0 where
  compared : (input other : Input) → IsReadAs first input → IsReadAs second other
      → AnswersOfInputs input other text answer → AnswersCompare first second text answer
  first_unread : (why : Unread) → IsUnread first why → ReportsUnread why text answer
      → answer.input ≡ 1 → AnswersCompare first second text answer
  second_unread : (why : Unread) → IsUnread second why → ReportsUnread why text answer
      → answer.input ≡ 2 → AnswersCompare first second text answer
  judged : (z w : Zone) (verdict : Verdict) → DenotesGiven first z → DenotesGiven second w
      → IsVerdictOnTexts verdict (canon z) (canon w) → ReportsVerdict verdict text answer
      → AnswersCompare first second text answer
  no_zone : (which : Which) (halt : Halt) → IsHalt (given_of first second which) halt
      → ReportsHalt halt text answer → answer.input ≡ number_of which
      → AnswersCompare first second text answer
