-- The sections of a message, or the first fault in their structure and the offset at which it
-- stands (RFC 1035 4.1).
use Rattle.std.specs.Prelude.{ℕ, zero, suc, ◌/◌, ◌%◌, List, [], ◌∷◌, length, slice_index, ◌==◌, nat_le, nat_lt, ◌&&◌, not, if◌then◌else◌, Option, Some, None, Result, Ok, Err}
use Rattle.zone_rdata.specs.declared.fault.Fault.{Fault}
use Rattle.zone_rdata.specs.declared.fault.Fault.TheVariants.{ShortMessage, NotAResponse, Truncated, ErrorCode, BadCounts, TrailingOctets}
use Rattle.zone_wire.specs.Message.{u16_at, QuestionAt, question_by, RecordAt, record_by, Sections}
use Rattle.zone_wire.specs.Name.{Found}
use Rattle.zone_wire.specs.Machine.Finding.{Outcome, named, refused, outcome}
use Rattle.zone_wire.specs.Machine.Walk.{walk}

-- what a value leads to, where there is one
abbrev pub and_then : {X Y E : Type 0} → Result X E → (X → Result Y E) → Result Y E
and_then (Err e) next = Err e
and_then (Ok x) next = next x

-- The first fault of a header: it isn't whole, is no response to a query, is marked as truncated,
-- carries an error, or counts two questions or an authority record (RFC 1035 4.1.1, RFC 5936
-- 2.2.1).
unfoldable pub header_fault : List ℕ → Option Fault
header_fault octets =
    if nat_lt (length octets) 12 then Some ShortMessage
    else if not (slice_index octets 2 / 8 == 16) then Some NotAResponse
    else if not (slice_index octets 2 / 2 % 2 == 0) then Some Truncated
    else if not (slice_index octets 3 % 16 == 0) then Some (ErrorCode (slice_index octets 3 % 16))
    else if not (nat_le (u16_at octets 4) 1 && u16_at octets 8 == 0) then Some BadCounts
    else None

-- What begins with a name: the fault at which the name's walk ends, or what stands there, where it
-- ends inside the message.
abbrev pub inside : {X : Type 0} → List ℕ → (Found → X) → (X → ℕ) → Outcome → Result X Fault
inside octets by end (refused fault steps) = Err fault
inside octets by end (named found) =
    if nat_le (end (by found)) (length octets) then Ok (by found) else Err ShortMessage

abbrev pub question_at : List ℕ → ℕ → Result QuestionAt Fault
question_at octets offset =
    inside octets (question_by octets) (λ q. q.end) (outcome octets (walk octets offset))

abbrev pub record_at : List ℕ → ℕ → Result RecordAt Fault
record_at octets offset =
    inside octets (record_by octets offset) (λ r. r.end) (outcome octets (walk octets offset))

abbrev pub at_offset : {X : Type 0} → ℕ → Result X Fault → Result X (Fault × ℕ)
at_offset offset (Err fault) = Err (fault, offset)
at_offset offset (Ok x) = Ok x

-- So many of them, each after the one before, and the offset after the last; or the first fault, at
-- the start of the one that has it.
abbrev pub each_from : {X : Type 0} → (ℕ → Result X Fault) → (X → ℕ) → ℕ → ℕ
    → Result (List X × ℕ) (Fault × ℕ)
each_from read end zero offset = Ok ([], offset)
each_from read end (suc count) offset =
    and_then (at_offset offset (read offset)) (λ first.
    and_then (each_from read end count (end first)) (λ others.
    Ok (first ∷ others.0, others.1)))

abbrev pub questions_from : List ℕ → ℕ → ℕ → Result (List QuestionAt × ℕ) (Fault × ℕ)
questions_from octets count offset = each_from (question_at octets) (λ q. q.end) count offset

abbrev pub records_from : List ℕ → ℕ → ℕ → Result (List RecordAt × ℕ) (Fault × ℕ)
records_from octets count offset = each_from (record_at octets) (λ r. r.end) count offset

-- nothing stands after the last record
abbrev pub to_the_end : List ℕ → ℕ → Sections → Result Sections (Fault × ℕ)
to_the_end octets end sections =
    if end == length octets then Ok sections else Err (TrailingOctets, 0)

-- as many questions, answers and additional records as the header counts, in this order, and
-- nothing after them
abbrev pub after_header : List ℕ → Result Sections (Fault × ℕ)
after_header octets =
    and_then (questions_from octets (u16_at octets 4) 12) (λ questions.
    and_then (records_from octets (u16_at octets 6) questions.1) (λ answers.
    and_then (records_from octets (u16_at octets 10) answers.1) (λ additional.
    to_the_end octets additional.1
    (record {
      id = u16_at octets 0;
      questions = questions.0;
      answers = answers.0;
      additional = additional.0;
    }))))

-- a fault of the header comes before all others
abbrev pub unless_faulted : Option Fault → Result Sections (Fault × ℕ) → Result Sections (Fault × ℕ)
unless_faulted (Some fault) next = Err (fault, 0)
unless_faulted None next = next

unfoldable pub sections_of : List ℕ → Result Sections (Fault × ℕ)
sections_of octets = unless_faulted (header_fault octets) (after_header octets)
