-- How the messages of a stream are taken, one after another.
use Rattle.std.specs.Prelude.{◌≡◌, ℕ, ◌+◌, List, [], ◌∷◌, ◌++◌, length, Option, Some, None, Result, Ok, Err, MatchOption, ⊤}
use Rattle.zone_rdata.specs.Record.{Record}
use Rattle.zone_rdata.specs.declared.fault.Failing.{Failing}
use Rattle.zone_rdata.specs.declared.fault.Failing.TheVariants as failings
use Rattle.zone_rdata.specs.declared.fault.Fault.{Fault}
use Rattle.zone_rdata.specs.declared.fault.Fault.TheVariants.{IdMismatch, BadQuestion}
use Rattle.zone_rdata.specs.declared.fault.Place.TheVariants.{Message}
use Rattle.zone_rdata.specs.declared.record.Placed.{Placed}
use Rattle.zone_wire.specs.AnswerFault.{AnswerFault, AnswersGive}
use Rattle.zone_wire.specs.Answers.{ZoneAsked, zone_of, handed_on, is_closed, ComesAfter}
use Rattle.zone_wire.specs.Message.{QuestionAt, RecordAt, Sections}
use Rattle.zone_wire.specs.Stream.{asked_in, placed_in, HasFirstId, AskAfter, IsReadAfter, FaultAfter}
use Rattle.zone_wire.specs.Transfer.{AnswerStates, StatedMessage}
use Rattle.zone_wire.specs.TransferSource.{first_id, opening_of}
use Rattle.zone_wire.specs.View.{RawRecord}
use Rattle.zone_wire.specs.declared.transfer.FixedZone.{FixedZone}
use Rattle.zone_wire.specs.declared.transfer.Transfer.{Transfer}

abbrev pub zone_held : Option FixedZone → Option ZoneAsked
zone_held None = None
zone_held (Some z) = Some (record { name = z.name; class = z.class })

-- the zone that an opening SOA leaves fixed
abbrev pub zone_with : Option ZoneAsked → Record → Option ZoneAsked
zone_with (Some z) opening = Some z
zone_with None opening = Some (record { name = opening.owner; class = opening.class })

-- the transfer holds what these questions and records before fix
pub record Among (questions : List QuestionAt) (placed : List Placed) (t : Transfer) : Type 0 where
  pub zone : zone_held t.zone ≡ zone_of questions placed
  pub opening : t.opening ≡ opening_of placed
  pub closed : t.closed ≡ is_closed placed

-- the transfer holds what these messages fix
pub record IsAfter (before : List StatedMessage) (t : Transfer) : Type 0 where
  pub count : t.messages ≡ length before
  pub id : t.id ≡ first_id before
  pub among : Among (asked_in before) (placed_in before) t

-- what is left to hand on is the rest of these records, whatever was given
abbrev pub Hands : List Placed → List Placed → Transfer → Transfer → Type 0
Hands placed later old new =
    (given : List Placed) → given ++ old.decided.placed ≡ handed_on placed
    → given ++ new.decided.placed ≡ handed_on later

-- records came after others, and those of them that are handed on are held
pub record Gains (here : List Placed) (questions : List QuestionAt) (placed : List Placed)
    (old new : Transfer) : Type 0 where
  pub among : Among questions (placed ++ here) new
  pub handed : Hands placed (placed ++ here) old new
  pub id : new.id ≡ old.id

-- the record of an answer came after others
pub record Takes (octets : List ℕ) (a : RecordAt) (questions : List QuestionAt)
    (placed : List Placed) (old new : Transfer) : Type 0 where
  pub rr : Record
  pub states : AnswerStates octets a rr
  pub stands : ComesAfter questions placed rr
  pub gains : Gains
      (record { rr = rr; place = Message old.messages a.offset } ∷ []) questions placed old new

-- the record of an answer comes after whatever was taken before
abbrev pub IsTaken : RawRecord → Transfer → Transfer → Type 0
IsTaken answer old new =
    (questions : List QuestionAt) (placed : List Placed) → Among questions placed old
    → Takes answer.octets answer.at questions placed old new

-- an answer has a fault after whatever was taken before
abbrev pub IsRefused : RawRecord → Transfer → Fault → Type 0
IsRefused answer old fault =
    (questions : List QuestionAt) (placed : List Placed) → Among questions placed old
    → AnswerFault answer.octets questions placed answer.at fault

-- the fault that was found, if memory was not wanting
abbrev pub IfNoMemory : (Option (Fault × ℕ) → Type 0) → Result (Unit {0}) (Failing × ℕ) → Type 0
IfNoMemory Is (Ok done) = Is None
IfNoMemory Is (Err e) =
    elim e.0 [ failings.Fault fault ↦ Is (Some (fault, e.1)) | failings.Memory ↦ ⊤ ]

-- the records of answers came after others, up to a fault
pub record TakesUpTo (octets : List ℕ) (answers : List RecordAt) (questions : List QuestionAt)
    (placed : List Placed) (old new : Transfer) (fault : Option (Fault × ℕ)) : Type 0 where
  pub here : List Placed
  pub gives : AnswersGive old.messages octets questions placed answers here fault
  pub gains : Gains here questions placed old new

abbrev pub TakesEach : List ℕ → List RecordAt → List QuestionAt → List Placed
    → Result (Unit {0}) (Failing × ℕ) → Transfer → Transfer → Type 0
TakesEach octets answers questions placed result old new =
    IfNoMemory (TakesUpTo octets answers questions placed old new) result

-- the ID and the questions of a message fit those of others, and the transfer holds what they fix
pub record TakesHead (before : List StatedMessage) (s : Sections)
    (old new : Transfer) : Type 0 where
  pub same_id : HasFirstId before s
  pub asks : AskAfter before s
  pub count : new.messages ≡ old.messages + 1
  pub id : new.id ≡ Some s.id
  pub among : Among (asked_in before ++ s.questions) (placed_in before) new

-- the fault of a message's ID, or of a question
pub data HeadFault (before : List StatedMessage) (s : Sections) : Fault × ℕ → Type 0 where
  other_id : (HasFirstId before s → ⊥) → HeadFault before s (IdMismatch, 0)
  other_zone : HasFirstId before s → (AskAfter before s → ⊥) → HeadFault before s (BadQuestion, 12)

-- a message came after others
pub record TakesWhole (octets : List ℕ) (before : List StatedMessage)
    (old new : Transfer) : Type 0 where
  pub part : StatedMessage
  pub octets_are : part.octets ≡ octets
  pub read : IsReadAfter before part
  pub after : IsAfter (before ++ part ∷ []) new
  pub handed : Hands (placed_in before) (placed_in (before ++ part ∷ [])) old new

-- a message after others has a fault
pub record StopsIn (octets : List ℕ) (before : List StatedMessage) (old new : Transfer)
    (e : Fault × ℕ) : Type 0 where
  pub here : List Placed
  pub next : FaultAfter before octets here e.0 e.1
  pub handed : Hands (placed_in before) (placed_in before ++ here) old new

abbrev pub TakesMessageUpTo : List ℕ → List StatedMessage → Transfer → Transfer → Option (Fault × ℕ)
    → Type 0
TakesMessageUpTo octets before old new None = TakesWhole octets before old new
TakesMessageUpTo octets before old new (Some e) = StopsIn octets before old new e

abbrev pub TakesMessage : List ℕ → List StatedMessage → Result (Unit {0}) (Failing × ℕ) → Transfer
    → Transfer → Type 0
TakesMessage octets before result old new =
    IfNoMemory (TakesMessageUpTo octets before old new) result

-- one message more: it came after others, or its fault at its place was decided
abbrev pub ReadsNext : List ℕ → List StatedMessage → Transfer → Transfer → Type 0
ReadsNext octets before old new =
    MatchOption new.decided.ending (TakesWhole octets before old new)
    (λ e. (offset : ℕ)
    × (StopsIn octets before old new (e.0, offset) × (e.1 ≡ Message (length before + 1) offset)))
