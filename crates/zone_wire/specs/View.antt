-- Messages and their records as contracts see them (RFC 1035 4.1).
use Rattle.std.specs.Prelude.{ℕ, List}
use Rattle.zone_name.specs.Common.{Labels}
use Rattle.zone_wire.specs.Message.{QuestionAt, RecordAt, Sections}
use Rattle.zone_wire.specs.declared.raw.RawFields.{RawFields}
use Rattle.zone_wire.specs.declared.message.Question.{Question}

-- a message: its octets, and what stands in them
pub record Parsed : Type 0 where
  pub octets : List ℕ
  pub sections : Sections

-- a record of a message, and the octets of the whole message
pub record RawRecord : Type 0 where
  pub octets : List ℕ
  pub at : RecordAt

abbrev pub raw_at : List ℕ → RecordAt → RawRecord
raw_at octets r = record { octets = octets; at = r }

-- the record of an owner and of what stands after it
abbrev pub raw_with : Labels → RawFields → RawRecord
raw_with owner fields = record {
  octets = fields.message.now;
  at = record {
    offset = fields.offset;
    owner = owner;
    kind = fields.kind;
    class = fields.class;
    ttl = fields.ttl;
    start = fields.start;
    end = fields.end;
  };
}

-- a question without the offset after it
abbrev pub asked : QuestionAt → Question
asked q = record { name = q.name; kind = q.kind; class = q.class }
