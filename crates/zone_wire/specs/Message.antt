-- The messages of zone transfers, section by section (RFC 1035 4.1).
use Rattle.std.specs.Prelude.{◌≡◌, ℕ, ◌+◌, ◌*◌, ◌/◌, ◌%◌, ◌≤◌, List, [], ◌∷◌, length, slice_index}
use Rattle.zone_name.specs.Common.{Labels}
use Rattle.zone_wire.specs.Name.{Found, IsNameAt}

-- numbers of 16 and 32 bits at an offset, the highest octet first (RFC 1035 2.3.2)
abbrev pub u16_at : List ℕ → ℕ → ℕ
u16_at octets offset = slice_index octets offset * 256 + slice_index octets (offset + 1)

abbrev pub u32_at : List ℕ → ℕ → ℕ
u32_at octets offset = u16_at octets offset * 65536 + u16_at octets (offset + 2)

-- the most octets of a message: in a stream its length is a number of 16 bits (RFC 1035 4.2.2)
abbrev pub longest_message : ℕ
longest_message = 65535

-- TC, 1 where a message is truncated, and RCODE, 0 where there is no error (RFC 1035 4.1.1)
abbrev pub tc_of : List ℕ → ℕ
tc_of octets = slice_index octets 2 / 2 % 2

abbrev pub rcode_of : List ℕ → ℕ
rcode_of octets = slice_index octets 3 % 16

-- QDCOUNT, ANCOUNT and ARCOUNT: how many questions, answers and additional records there are
abbrev pub qdcount_of : List ℕ → ℕ
qdcount_of octets = u16_at octets 4

abbrev pub ancount_of : List ℕ → ℕ
ancount_of octets = u16_at octets 6

abbrev pub arcount_of : List ℕ → ℕ
arcount_of octets = u16_at octets 10

-- a response to a query: QR, the highest bit of its octet, is 1, and OPCODE, the next four, is 0
abbrev pub IsResponse : List ℕ → Type 0
IsResponse octets = (slice_index octets 2 / 128 ≡ 1) × (slice_index octets 2 / 8 % 16 ≡ 0)

-- the counts of a message of a transfer: at most one question, and no authority record, which
-- NSCOUNT counts (RFC 5936 2.2)
abbrev pub HasCounts : List ℕ → Type 0
HasCounts octets = (qdcount_of octets ≤ 1) × (u16_at octets 8 ≡ 0)

-- the header of a message of a transfer: whole, of a response that isn't truncated and has no error
-- (RFC 5936 2.2.1)
pub record HasHeader (octets : List ℕ) : Type 0 where
  pub twelve : 12 ≤ length octets
  pub response : IsResponse octets
  pub whole : tc_of octets ≡ 0
  pub no_error : rcode_of octets ≡ 0
  pub counts : HasCounts octets

-- a question, and the offset after it (RFC 1035 4.1.2)
pub record QuestionAt : Type 0 where
  pub name : Labels
  pub kind : ℕ
  pub class : ℕ
  pub end : ℕ

abbrev pub question_by : List ℕ → Found → QuestionAt
question_by octets found =
    record {
      name = found.labels;
      kind = u16_at octets found.end;
      class = u16_at octets (found.end + 2);
      end = found.end + 4;
    }

-- a part at an offset: it begins with a name, is what is made of that, and ends in the message
pub record IsPartAt {X : Type 0} (octets : List ℕ) (by : Found → X) (end_of : X → ℕ) (offset : ℕ)
    (x : X) : Type 0 where
  pub found : Found
  pub name : IsNameAt octets offset found
  pub stands : x ≡ by found
  pub inside : end_of x ≤ length octets

abbrev pub IsQuestionAt : List ℕ → ℕ → QuestionAt → Type 0
IsQuestionAt octets offset q = IsPartAt octets (question_by octets) (λ q. q.end) offset q

-- a record, the offset at which it begins, and those from which and up to which its data stands
-- (RFC 1035 4.1.3)
pub record RecordAt : Type 0 where
  pub offset : ℕ
  pub owner : Labels
  pub kind : ℕ
  pub class : ℕ
  pub ttl : ℕ
  pub start : ℕ
  pub end : ℕ

abbrev pub record_by : List ℕ → ℕ → Found → RecordAt
record_by octets offset found = record {
  offset = offset;
  owner = found.labels;
  kind = u16_at octets found.end;
  class = u16_at octets (found.end + 2);
  ttl = u32_at octets (found.end + 4);
  start = found.end + 10;
  end = found.end + 10 + u16_at octets (found.end + 8);
}

abbrev pub IsRecordAt : List ℕ → ℕ → RecordAt → Type 0
IsRecordAt octets offset r = IsPartAt octets (record_by octets offset) (λ r. r.end) offset r

-- parts of a message, one after another from an offset to another
abbrev pub AreAt : {X : Type 0} → (ℕ → X → Type 0) → (X → ℕ) → ℕ → List X → ℕ → Type 0
AreAt Is end_of offset [] end = offset ≡ end
AreAt Is end_of offset (x ∷ parts) end = Is offset x × AreAt Is end_of (end_of x) parts end

-- what stands in a message
pub record Sections : Type 0 where
  pub id : ℕ
  pub questions : List QuestionAt
  pub answers : List RecordAt
  pub additional : List RecordAt

-- the octets are a message of a transfer: as many questions and records as the header counts, and
-- nothing after them
pub record IsMessage (octets : List ℕ) (s : Sections) : Type 0 where
  pub header : HasHeader octets
  pub id : s.id ≡ u16_at octets 0
  pub question_count : length s.questions ≡ qdcount_of octets
  pub answer_count : length s.answers ≡ ancount_of octets
  pub additional_count : length s.additional ≡ arcount_of octets
  pub past_questions : ℕ
  pub past_answers : ℕ
  pub questions : AreAt (IsQuestionAt octets) (λ q. q.end) 12 s.questions past_questions
  pub answers : AreAt (IsRecordAt octets) (λ r. r.end) past_questions s.answers past_answers
  pub additional : AreAt (IsRecordAt octets) (λ r. r.end) past_answers s.additional (length octets)
