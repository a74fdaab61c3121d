-- The records that a zone transfer states: a stream of messages, each after its length (RFC 5936
-- 2.2, 3; RFC 1035 4.2.2).
use Rattle.std.specs.Prelude.{◌≡◌, ◌≢◌, ℕ, ◌+◌, ◌-◌, ◌/◌, ◌%◌, ◌≤◌, List, [], ◌∷◌, ◌++◌, length, take, drop, nat_lt, if◌then◌else◌, MatchOption, ⊤}
use Rattle.std.specs.List.{flat_map, AllByRecursion, AllZip}
use Rattle.zone_rdata.specs.Field.{FieldValue, name, field_octets, octets_of, Holds}
use Rattle.zone_rdata.specs.Layout.{layout}
use Rattle.zone_rdata.specs.Limits.{greatest_ttl}
use Rattle.zone_rdata.specs.Record.{Record, IsRecord}
use Rattle.zone_rdata.specs.declared.fault.Place.TheVariants.{Message}
use Rattle.zone_rdata.specs.declared.field.Field.{Field}
use Rattle.zone_rdata.specs.declared.record.Placed.{Placed}
use Rattle.zone_wire.specs.Message.{QuestionAt, RecordAt, Sections, IsMessage, longest_message}
use Rattle.zone_wire.specs.Name.{Found, IsNameAt}

abbrev pub octets_between : List ℕ → ℕ → ℕ → List ℕ
octets_between octets start end = take (end - start) (drop start octets)

-- The value of a field stands from one offset to another: a name as names stand in messages, every
-- other value by its octets (RFC 1035 3.3).
abbrev pub IsValueAt : List ℕ → ℕ → ℕ → FieldValue → Type 0
IsValueAt octets start end (name labels) =
    (found : Found) × IsNameAt octets start found × (found.labels ≡ labels) × (found.end ≡ end)
IsValueAt octets start end value =
    (start ≤ end) × (octets_between octets start end ≡ field_octets value)

-- values stand one after another from one offset to another
abbrev pub AreValuesAt : List ℕ → ℕ → ℕ → List FieldValue → Type 0
AreValuesAt octets start end [] = start ≡ end
AreValuesAt octets start end (v ∷ values) =
    (next : ℕ) × (next ≤ end) × IsValueAt octets start next v × AreValuesAt octets next end values

-- the canonical octets of the values that stand there for the fields of a layout
pub record AreFieldsAt (octets : List ℕ) (start end : ℕ) (fields : List Field)
    (canonical : List ℕ) : Type 0 where
  pub values : List FieldValue
  pub held : AllZip Holds fields values
  pub stand : AreValuesAt octets start end values
  pub whole : canonical ≡ octets_of values

-- the canonical octets of a record's data: of the values of its layout, or the octets as they are
-- where there is none (RFC 3597 3, 4)
abbrev pub IsDataAt : List ℕ → RecordAt → List ℕ → Type 0
IsDataAt octets a canonical =
    MatchOption (layout a.class a.kind) (canonical ≡ octets_between octets a.start a.end)
    (λ fields. AreFieldsAt octets a.start a.end fields canonical)

-- a TTL with its top bit set counts as 0 (RFC 2181 8)
abbrev pub ttl_of : ℕ → ℕ
ttl_of n = if nat_lt greatest_ttl n then 0 else n

-- the types that may hold compressed names and aren't read: MD, MF, MB, MG, MR, MINFO, RP, AFSDB,
-- RT, SIG, PX, NXT (RFC 1035 3.3, RFC 3597 4)
abbrev pub compressible : List ℕ
compressible = 3 ∷ 4 ∷ 7 ∷ 8 ∷ 9 ∷ 14 ∷ 17 ∷ 18 ∷ 21 ∷ 24 ∷ 26 ∷ 30 ∷ []

abbrev pub IsReadable : ℕ → Type 0
IsReadable kind = AllByRecursion (λ k. kind ≢ k) compressible

-- an answer of a message states a record
pub record AnswerStates (octets : List ℕ) (a : RecordAt) (r : Record) : Type 0 where
  pub owner : r.owner ≡ a.owner
  pub class : r.class ≡ a.class
  pub kind : r.kind ≡ a.kind
  pub ttl : r.ttl ≡ ttl_of a.ttl
  pub rdata : IsDataAt octets a r.octets
  pub fits : IsRecord r
  pub readable : IsReadable a.kind

-- each answer of the message of this number states its record, which stands at the answer's offset
abbrev pub AnswersState : ℕ → List ℕ → List RecordAt → List Placed → Type 0
AnswersState number octets answers placed =
    AllZip (λ a p. AnswerStates octets a p.rr × (p.place ≡ Message number a.offset)) answers placed

-- a message of a stream, what stands in it, and the records that its answers state
pub record StatedMessage : Type 0 where
  pub octets : List ℕ
  pub sections : Sections
  pub placed : List Placed

-- a question for the whole zone: of type AXFR, 252, and of the zone's name and class (RFC 5936
-- 2.1.2; by 2.2.2 it is copied from the query)
pub record AsksFor (zone : Record) (q : QuestionAt) : Type 0 where
  pub name : q.name ≡ zone.owner
  pub kind : q.kind ≡ 252
  pub class : q.class ≡ zone.class

-- a message of the transfer, by its number in the stream
pub record IsStatedMessage (id : ℕ) (zone : Record) (number : ℕ) (p : StatedMessage) : Type 0 where
  pub short : length p.octets ≤ longest_message
  pub message : IsMessage p.octets p.sections
  pub same_id : p.sections.id ≡ id
  pub questions : AllByRecursion (AsksFor zone) p.sections.questions
  pub answers : AnswersState number p.octets p.sections.answers p.placed

abbrev pub AreStatedMessages : ℕ → Record → ℕ → List StatedMessage → Type 0
AreStatedMessages id zone number [] = ⊤
AreStatedMessages id zone number (p ∷ parts) =
    IsStatedMessage id zone number p × AreStatedMessages id zone (number + 1) parts

-- a message as it stands in a stream, after its length in two octets
abbrev pub frame : List ℕ → List ℕ
frame octets = (length octets / 256) ∷ (length octets % 256) ∷ octets

-- The stream states the records: messages with one ID, whose answers are an SOA, records that are
-- none, and that SOA again. The closing SOA isn't handed on.
pub record StreamStates (stream : List ℕ) (placed : List Placed) : Type 0 where
  pub parts : List StatedMessage
  pub framed : stream ≡ flat_map (λ p. frame p.octets) parts
  pub id : ℕ
  pub opening : Placed
  pub others : List Placed
  pub closing : Placed
  pub each : AreStatedMessages id opening.rr 1 parts
  pub answers : flat_map (λ p. p.placed) parts ≡ opening ∷ (others ++ closing ∷ [])
  pub soa : opening.rr.kind ≡ 6
  pub no_soa : AllByRecursion (λ p. p.rr.kind ≢ 6) others
  pub same : closing.rr ≡ opening.rr
  pub stated : placed ≡ opening ∷ others
