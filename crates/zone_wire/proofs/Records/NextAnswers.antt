-- The records that the answers of a message state, up to the first answer that has a fault.
use Rattle.std.specs.Prelude.{ℕ, List, [], ◌∷◌, ◌++◌, ◌==◌, ◌||◌, nat_eq, if◌then◌else◌, Bool, Option, Some, None, Result, Ok, Err, ◌+◌, length, ◌&&◌, true}
use Rattle.std.specs.List.{list_any, list_all}
use Rattle.zone_rdata.specs.Record.{Record}
use Rattle.zone_rdata.specs.Words.{is_meta}
use Rattle.zone_rdata.specs.declared.fault.Fault.{Fault}
use Rattle.zone_rdata.specs.declared.fault.Fault.TheVariants.{BadClass, MetaType, CompressibleType, IdMismatch, BadQuestion}
use Rattle.zone_rdata.specs.declared.fault.Place.TheVariants.{Message}
use Rattle.zone_rdata.specs.declared.record.Placed.{Placed}
use Rattle.zone_wire.specs.Machine.Answers.{order_fault, agrees}
use Rattle.zone_wire.specs.Machine.Data.{data_at}
use Rattle.zone_wire.specs.Machine.Sections.{and_then, sections_of}
use Rattle.zone_wire.specs.Message.{QuestionAt, RecordAt, Sections}
use Rattle.zone_wire.specs.Transfer.{ttl_of, compressible, StatedMessage}
use Rattle.zone_rdata.specs.declared.fault.Place.{Place}
use Rattle.zone_wire.specs.Answers.{ZoneAsked, zone_of}
use Rattle.zone_wire.specs.Stream.{asked_in, placed_in}

-- a number of 16 bits that is none of a class that can hold zone data: the test for `IsClass`
abbrev pub is_no_class : ℕ → Bool
is_no_class n = n == 0 || n == 254 || n == 255

-- the record that an answer states by itself: its class and type can be in a zone, its type is
-- read, and so is its data
unfoldable pub own_record : List ℕ → RecordAt → Result Record Fault
own_record octets a =
    if is_no_class a.class then Err BadClass
    else if is_meta a.kind then Err MetaType
    else if list_any (nat_eq a.kind) compressible then Err CompressibleType
    else and_then (data_at octets a)
    (λ canonical. Ok
    (record {
      owner = a.owner;
      class = a.class;
      kind = a.kind;
      ttl = ttl_of a.ttl;
      octets = canonical;
    }))

-- the record of an answer after questions and records, or its first fault
unfoldable pub answer_record : List ℕ → List QuestionAt → List Placed → RecordAt
    → Result Record Fault
answer_record octets questions before a =
    and_then (own_record octets a)
    (λ r. elim (order_fault questions before r) [ Some fault ↦ Err fault | None ↦ Ok r ])

-- records, and the fault after them
pub record Answered (E : Type 0) : Type 0 where
  pub placed : List Placed
  pub fault : Option E

-- the record of an answer, and then those of the answers after it, if it has no fault
abbrev pub before_others : ℕ → ℕ → Result Record Fault → (Placed → Answered (Fault × ℕ))
    → Answered (Fault × ℕ)
before_others number offset (Err fault) next = record { placed = []; fault = Some (fault, offset) }
before_others number offset (Ok r) next =
    let p : Placed = record { rr = r; place = Message number offset } in
    let others = next p in
    record others { placed = p ∷ others.placed }

-- the records of the answers of the message of this number, each at its answer's offset, and the
-- first fault after them
abbrev pub answers_of : ℕ → List ℕ → List QuestionAt → List Placed → List RecordAt
    → Answered (Fault × ℕ)
answers_of number octets questions before [] = record { placed = []; fault = None }
answers_of number octets questions before (a ∷ answers) =
    before_others number a.offset (answer_record octets questions before a)
    (λ p. answers_of number octets questions (before ++ p ∷ []) answers)

-- ---- what a stream of messages states, each after its length, up to the first fault of its frames
-- and messages (RFC 1035 4.2.2; RFC 5936 2.2, 3)
-- the ID is that of the first message
abbrev pub has_first_id : List StatedMessage → Sections → Bool
has_first_id [] s = true
has_first_id (first ∷ messages) s = s.id == first.sections.id

-- a question asks for the whole of the zone that is fixed (RFC 5936 2.2.2)
abbrev pub asks_for : Option ZoneAsked → QuestionAt → Bool
asks_for zone q = q.kind == 252 && agrees zone q.name q.class

abbrev pub of_answers : List ℕ → Sections → Answered (Fault × ℕ)
    → Result StatedMessage (List Placed × Fault × ℕ)
of_answers octets s answered =
    elim answered.fault [
      | None ↦ Ok (record { octets = octets; sections = s; placed = answered.placed })
      | Some e ↦ Err (answered.placed, e.0, e.1)
    ]

-- a fault of the whole message comes before those of its answers
abbrev pub of_sections : List StatedMessage → List ℕ → Result Sections (Fault × ℕ)
    → Result StatedMessage (List Placed × Fault × ℕ)
of_sections before octets (Err e) = Err ([], e.0, e.1)
of_sections before octets (Ok s) =
    if has_first_id before s then
    if list_all (asks_for (zone_of (asked_in before) (placed_in before))) s.questions
    then of_answers octets s
    (answers_of (length before + 1) octets (asked_in before ++ s.questions) (placed_in before)
    s.answers)
    else Err ([], BadQuestion, 12)
    else Err ([], IdMismatch, 0)

-- a message as it is read after others, or the records before its first fault, and that fault with
-- its offset
unfoldable pub next_message : List StatedMessage → List ℕ
    → Result StatedMessage (List Placed × Fault × ℕ)
next_message before octets = of_sections before octets (sections_of octets)

-- the records of messages after others up to the first fault, and that fault with its place
unfoldable pub stream_records : List StatedMessage → List (List ℕ) → Answered (Fault × Place)
stream_records before [] = record { placed = []; fault = None }
stream_records before (octets ∷ messages) =
    elim (next_message before octets) [
      | Err e ↦ record { placed = e.0; fault = Some (e.1, Message (length before + 1) e.2) }
      | Ok p ↦ let rest = stream_records (before ++ p ∷ []) messages in
          record rest { placed = p.placed ++ rest.placed }
    ]
