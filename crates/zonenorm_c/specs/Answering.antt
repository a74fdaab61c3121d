-- What a call answers, and the text beside it (this project's own).
use Rattle.std.specs.Prelude.{◌≡◌, ◌<◌, ◌≤◌, ◌++◌, ℕ, List, [], length, drop, ◌⊎◌}
use Rattle.zone_rdata.specs.FaultTable.{fault_row}
use Rattle.zone_rdata.specs.StopText.{refusal_line}
use Rattle.zone_rdata.specs.declared.fault.Fault.{Fault}
use Rattle.zone_rdata.specs.declared.fault.Fault.TheVariants.{InputTooLong}
use Rattle.zone_rdata.specs.declared.fault.Place.{Place}
use Rattle.zone_rdata.specs.declared.fault.Place.TheVariants.{Line, Message, Whole}
use Rattle.zone_set.specs.Zone.{Zone}
use Rattle.zonenorm_c.specs.Giving.{DenotesGiven, IsRefusalOf, IsUnread}
use Rattle.zonenorm_c.specs.declared.answer.Answer.{Answer}
use Rattle.zonenorm_c.specs.declared.given.Given.{Given}
use Rattle.zone_files.specs.declared.files.stop.FilesStop.{FilesStop}
use Rattle.zonenorm_c.specs.Files.{ReportsFilesStop}
use Rattle.zonenorm_c.specs.declared.given.Unread.{Unread}
use Rattle.zonenorm_c.specs.declared.given.Unread.TheVariants.{Unsupported, BadOrigin, TooLong, Memory}
use Rattle.zonenorm_c.specs.declared.zone.Halt.{Halt}
use Rattle.zonenorm_c.specs.declared.zone.Halt.TheVariants as halts

-- the number of a place's kind, its line or message, and its offset
abbrev pub place_of : Place → ℕ
place_of (Line number) = 1
place_of (Message number offset) = 2
place_of Whole = 0

abbrev pub line_of : Place → ℕ
line_of (Line number) = number
line_of (Message number offset) = number
line_of Whole = 0

abbrev pub offset_of : Place → ℕ
offset_of (Line number) = 0
offset_of (Message number offset) = offset
offset_of Whole = 0

-- an answer of this status alone
abbrev pub answer_of : ℕ → Answer
answer_of status = record {
  status = status;
  input = 0;
  fault = 0;
  place = 0;
  line = 0;
  offset = 0;
  count = 0;
  file = 0;
  reserved = 0;
  value = 0;
}

-- the answer reports a refusal: its status, the fault's number, and the place
abbrev pub ReportsRefusal : Fault → Place → Answer → Type 0
ReportsRefusal fault place answer =
    (answer.status ≡ 3) × (answer.fault ≡ (fault_row fault).number)
    × (answer.place ≡ place_of place) × (answer.line ≡ line_of place)
    × (answer.offset ≡ offset_of place)

-- the answer reports a refusal, and the text is its line, or empty if there was no memory for it
abbrev pub ReportsLine : Fault → Place → List ℕ → Answer → Type 0
ReportsLine fault place text answer =
    ReportsRefusal fault place answer × ((text ≡ refusal_line fault place) ⊎ (text ≡ []))

-- there is no text, and the answer has this status
abbrev pub HasStatus : ℕ → List ℕ → Answer → Type 0
HasStatus status text answer = (answer.status ≡ status) × (text ≡ [])

-- the report on an input that isn't read
abbrev pub ReportsUnread : Unread → List ℕ → Answer → Type 0
ReportsUnread TooLong text answer = ReportsLine InputTooLong Whole text answer
ReportsUnread Unsupported text answer = HasStatus 5 text answer
ReportsUnread BadOrigin text answer = HasStatus 2 text answer
ReportsUnread Memory text answer = HasStatus 4 text answer

-- an answer is another one but for the input that it names
pub record IsAnswerOf (reply answer : Answer) : Type 0 where
  pub status : answer.status ≡ reply.status
  pub fault : answer.fault ≡ reply.fault
  pub place : answer.place ≡ reply.place
  pub line : answer.line ≡ reply.line
  pub offset : answer.offset ≡ reply.offset
  pub count : answer.count ≡ reply.count
  pub file : answer.file ≡ reply.file
  pub value : answer.value ≡ reply.value

-- the report on an input that denotes no zone
abbrev pub ReportsHalt : Halt → List ℕ → Answer → Type 0
ReportsHalt (halts.Refused fault place) text answer = ReportsLine fault place text answer
ReportsHalt (halts.Unread why) text answer = ReportsUnread why text answer
ReportsHalt (halts.Files reply) text answer =
    (text ≡ reply.text.items) × IsAnswerOf reply.answer answer

-- files that a caller gives stop the call, and this is reported
pub record IsFilesHalt (given : Given) (text : List ℕ) (answer : Answer) : Type 0 where
  pub kind : given.kind ≡ 3
  pub stop : FilesStop
  pub reports : ReportsFilesStop stop text answer

-- why the input that is given denotes no zone
abbrev pub IsHalt : Given → Halt → Type 0
IsHalt given (halts.Refused fault place) = IsRefusalOf given fault place
IsHalt given (halts.Unread why) = IsUnread given why
IsHalt given (halts.Files reply) = IsFilesHalt given reply.text.items reply.answer

-- What is answered on an input: what `Is` says of the zone that it denotes; or why it denotes
-- none.
pub data Answers (Is : Zone → List ℕ → Answer → Type 0) (given : Given) (text : List ℕ)
    (answer : Answer) : Type 0 where
  accepted : (z : Zone) → DenotesGiven given z → Is z text answer → Answers Is given text answer
  halted : (halt : Halt) → IsHalt given halt → ReportsHalt halt text answer
      → Answers Is given text answer

-- a text in room: at the front, or it doesn't fit and nothing changed
pub data IsPut (text old new : List ℕ) : Type 0 where
  fits : length text ≤ length old → new ≡ text ++ drop (length text) old → IsPut text old new
  too_long : length old < length text → new ≡ old → IsPut text old new
