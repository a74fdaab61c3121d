-- What a stream of messages states, each after its length, up to the first fault of its frames and
-- messages (RFC 1035 4.2.2; RFC 5936 2.2, 3).
use Rattle.std.specs.Prelude.{◌≡◌, ◌⊎◌, ℕ, ◌+◌, List, [], ◌∷◌, ◌++◌, map, length, if◌then◌else◌, Option, Some, None, ⊤}
use Rattle.std.specs.Option.{option_or}
use Rattle.std.specs.List.{flat_map, AllByRecursion}
use Rattle.zone_rdata.specs.declared.fault.Fault.{Fault}
use Rattle.zone_rdata.specs.declared.fault.Fault.TheVariants.{ShortFrame, IdMismatch, BadQuestion, NoClosingSoa}
use Rattle.zone_rdata.specs.declared.fault.Place.{Place}
use Rattle.zone_rdata.specs.declared.fault.Place.TheVariants.{Message}
use Rattle.zone_rdata.specs.declared.record.Placed.{Placed}
use Rattle.zone_wire.specs.AnswerFault.{AnswersGive}
use Rattle.zone_wire.specs.Answers.{ZoneAsked, zone_of, AgreeWith, handed_on, is_closed}
use Rattle.zone_wire.specs.Frames.{IsFramed}
use Rattle.zone_wire.specs.Message.{QuestionAt, Sections, IsMessage}
use Rattle.zone_wire.specs.MessageFault.{MessageFault}
use Rattle.zone_wire.specs.Transfer.{StatedMessage}
use Rattle.zone_wire.specs.Unless.{Unless}

-- the octets of messages, their questions, and the records that they state
abbrev pub octets_in : List StatedMessage → List (List ℕ)
octets_in messages = map (λ p. p.octets) messages

abbrev pub asked_in : List StatedMessage → List QuestionAt
asked_in messages = flat_map (λ p. p.sections.questions) messages

abbrev pub placed_in : List StatedMessage → List Placed
placed_in messages = flat_map (λ p. p.placed) messages

-- the ID is that of the first message, if there is one
abbrev pub HasFirstId : List StatedMessage → Sections → Type 0
HasFirstId [] s = ⊤
HasFirstId (first ∷ before) s = s.id ≡ first.sections.id

-- a question for the whole of the zone that is fixed, if one is: of type AXFR, 252 (RFC 5936 2.1.2,
-- 2.2.2)
pub record AsksIn (zone : Option ZoneAsked) (q : QuestionAt) : Type 0 where
  pub kind : q.kind ≡ 252
  pub agrees : AgreeWith zone q.name q.class

-- each question asks for the zone that messages before fixed
abbrev pub AskAfter : List StatedMessage → Sections → Type 0
AskAfter before s =
    AllByRecursion (AsksIn (zone_of (asked_in before) (placed_in before))) s.questions

-- what the answers of a message after others give
abbrev pub GiveAfter : List StatedMessage → List ℕ → Sections → List Placed → Option (Fault × ℕ)
    → Type 0
GiveAfter before octets s placed stop =
    AnswersGive (length before + 1) octets (asked_in before ++ s.questions) (placed_in before)
    s.answers placed stop

-- a message after others is read: it is of the same ID, its questions are for the same zone, and
-- each of its answers gives a record
pub record IsReadAfter (before : List StatedMessage) (p : StatedMessage) : Type 0 where
  pub message : IsMessage p.octets p.sections
  pub same_id : HasFirstId before p.sections
  pub asks : AskAfter before p.sections
  pub gives : GiveAfter before p.octets p.sections p.placed None

-- The first fault of a message after others and the offset at which it stands, and the records that
-- are read before it: of its structure; its ID; a question; an answer.
abbrev pub FaultAfter : List StatedMessage → List ℕ → List Placed → Fault → ℕ → Type 0
FaultAfter before octets placed fault offset =
    ((placed ≡ []) × MessageFault octets fault offset)
    ⊎ ((s : Sections) × IsMessage octets s
    × Unless {E = List Placed × Fault × ℕ} (HasFirstId before s) ([], IdMismatch, 0)
    (Unless (AskAfter before s) ([], BadQuestion, 12)
    (λ e. GiveAfter before octets s e.0 (Some (e.1, e.2))))
    (placed, fault, offset))

-- the records of messages after others up to the first fault, and that fault with its place, or
-- none
pub data ReadAfter : List StatedMessage → List (List ℕ) → List Placed → Option (Fault × Place)
    → Type 0 where
  whole : {before : List StatedMessage} → ReadAfter before [] [] None
  reads : {before : List StatedMessage} {p : StatedMessage} {messages : List (List ℕ)}
      {placed : List Placed} {ending : Option (Fault × Place)}
      → IsReadAfter before p → ReadAfter (before ++ p ∷ []) messages placed ending
      → ReadAfter before (p.octets ∷ messages) (p.placed ++ placed) ending
  stops : {before : List StatedMessage} {octets : List ℕ} {messages : List (List ℕ)}
      {placed : List Placed} {fault : Fault} {offset : ℕ}
      → FaultAfter before octets placed fault offset
      → ReadAfter before (octets ∷ messages) placed
      (Some (fault, Message (length before + 1) offset))

-- messages are read, each after those before it
abbrev pub AreRead : List StatedMessage → List StatedMessage → Type 0
AreRead before [] = ⊤
AreRead before (p ∷ messages) = IsReadAfter before p × AreRead (before ++ p ∷ []) messages

-- the fault of a stream after whole messages without one, the number of the next message known: it
-- ends without the closing SOA, or inside a frame
abbrev pub end_fault : ℕ → List Placed → List ℕ → Option (Fault × Place)
end_fault number placed [] =
    if is_closed placed then None else Some (NoClosingSoa, Message number 0)
end_fault number placed rest = Some (ShortFrame, Message number 0)

-- what is decided once this much of a stream is known: the records of its whole frames up to their
-- first fault, and that fault with its place
pub record StreamDecides (stream : List ℕ) (placed : List Placed)
    (ending : Option (Fault × Place)) : Type 0 where
  pub messages : List (List ℕ)
  pub rest : List ℕ
  pub framed : IsFramed stream messages rest
  pub all : List Placed
  pub read : ReadAfter [] messages all ending
  pub stated : placed ≡ handed_on all

-- what a whole stream is read as: what its frames decide, and where none has a fault, how it ends
pub record StreamReads (stream : List ℕ) (placed : List Placed)
    (ending : Option (Fault × Place)) : Type 0 where
  pub first : Option (Fault × Place)
  pub frames : StreamDecides stream placed first
  pub ends : ending
      ≡ option_or first (end_fault (length frames.messages + 1) frames.all frames.rest)
