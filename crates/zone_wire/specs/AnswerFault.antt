-- The first fault of an answer, after the questions and the records of a stream (RFC 5936 2.2, 3).
use Rattle.std.specs.Prelude.{◌≡◌, ◌⊎◌, ℕ, List, [], ◌∷◌, ◌++◌, false, Option, Some, None}
use Rattle.zone_rdata.specs.Record.{Record}
use Rattle.zone_rdata.specs.Words.{IsClass, IsKind}
use Rattle.zone_rdata.specs.declared.fault.Fault.{Fault}
use Rattle.zone_rdata.specs.declared.fault.Fault.TheVariants.{BadClass, MetaType, CompressibleType, AfterClosing, NoOpeningSoa, BadQuestion, SoaMismatch}
use Rattle.zone_rdata.specs.declared.record.Placed.{Placed}
use Rattle.zone_rdata.specs.declared.fault.Place.TheVariants.{Message}
use Rattle.zone_wire.specs.Answers.{zone_of, is_closed, AgreeWith, ComesAfter}
use Rattle.zone_wire.specs.DataFault.{DataFault}
use Rattle.zone_wire.specs.Message.{QuestionAt, RecordAt}
use Rattle.zone_wire.specs.Transfer.{IsReadable, AnswerStates}
use Rattle.zone_wire.specs.Unless.{Unless, NoFault}

-- The first fault of an answer by itself: its class or its type can't be in a zone, its type isn't
-- read, or its data's.
abbrev pub OwnFault : List ℕ → RecordAt → Fault → Type 0
OwnFault octets a fault =
    Unless (IsClass a.class) BadClass
    (Unless (IsKind a.kind) MetaType
    (Unless (IsReadable a.kind) CompressibleType (DataFault octets a))) fault

-- The first fault of a record after questions and records: it is the first record and no SOA, or an
-- SOA of another zone than a question fixed; or the transfer is closed, or it is another SOA than
-- the opening one.
abbrev pub OrderFault : List QuestionAt → List Placed → Record → Fault → Type 0
OrderFault questions [] r fault =
    Unless (r.kind ≡ 6) NoOpeningSoa
    (Unless (AgreeWith (zone_of questions []) r.owner r.class) BadQuestion NoFault) fault
OrderFault questions (opening ∷ others) r fault =
    Unless (is_closed (opening ∷ others) ≡ false) AfterClosing
    (Unless (r.kind ≡ 6 → r ≡ opening.rr) SoaMismatch NoFault) fault

-- the first fault of an answer: by itself, or it states a record that has one after others
abbrev pub AnswerFault : List ℕ → List QuestionAt → List Placed → RecordAt → Fault → Type 0
AnswerFault octets questions before a fault =
    OwnFault octets a fault
    ⊎ ((r : Record) × AnswerStates octets a r × OrderFault questions before r fault)

-- What the answers of the message of this number give after questions and records: each states a
-- record, which stands at its offset and can come after those before it, up to the first that has a
-- fault, if one has.
pub data AnswersGive (number : ℕ) (octets : List ℕ) (questions : List QuestionAt)
    : List Placed → List RecordAt → List Placed → Option (Fault × ℕ) → Type 0 where
  no_more : {before : List Placed} → AnswersGive number octets questions before [] [] None
  states : {before : List Placed} {a : RecordAt} {answers : List RecordAt} {p : Placed}
      {placed : List Placed} {stop : Option (Fault × ℕ)}
      → AnswerStates octets a p.rr → p.place ≡ Message number a.offset
      → ComesAfter questions before p.rr
      → AnswersGive number octets questions (before ++ p ∷ []) answers placed stop
      → AnswersGive number octets questions before (a ∷ answers) (p ∷ placed) stop
  refused : {before : List Placed} {a : RecordAt} {answers : List RecordAt} {fault : Fault}
      → AnswerFault octets questions before a fault
      → AnswersGive number octets questions before (a ∷ answers) [] (Some (fault, a.offset))
