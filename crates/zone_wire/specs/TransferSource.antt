-- A source of the records of a zone transfer that is fed in pieces: what it keeps, and what it
-- stands for. This is this project's own: RFC 5936 speaks of whole transfers.
use Rattle.std.specs.Prelude.{◌≡◌, ℕ, List, [], ◌∷◌, length, Bool, Option, Some, None}
use Rattle.zone_rdata.specs.FedSource.{SourceState, StandsFor}
use Rattle.zone_rdata.specs.Record.{Record}
use Rattle.zone_rdata.specs.declared.record.Placed.{Placed}
use Rattle.zone_wire.specs.Answers.{ZoneAsked, zone_of, is_closed}
use Rattle.zone_wire.specs.Frames.{IsFramed}
use Rattle.zone_wire.specs.Stream.{octets_in, asked_in, placed_in, AreRead, StreamReads, StreamDecides}
use Rattle.zone_wire.specs.Transfer.{StatedMessage}

-- what a source keeps of the messages that came whole: their number, the ID of the first, the zone
-- that they fix, the opening SOA and whether the closing one came
pub record StreamKept : Type 0 where
  pub messages : ℕ
  pub id : Option ℕ
  pub zone : Option ZoneAsked
  pub opening : Option Record
  pub closed : Bool

-- the ID of the first of messages, and the opening SOA, which is the first of records
abbrev pub first_id : List StatedMessage → Option ℕ
first_id [] = None
first_id (first ∷ messages) = Some first.sections.id

abbrev pub opening_of : List Placed → Option Record
opening_of [] = None
opening_of (opening ∷ others) = Some opening.rr

-- what messages leave to be kept
abbrev pub kept_of : List StatedMessage → StreamKept
kept_of parts = record {
  messages = length parts;
  id = first_id parts;
  zone = zone_of (asked_in parts) (placed_in parts);
  opening = opening_of (placed_in parts);
  closed = is_closed (placed_in parts);
}

-- messages that are alike to the next one: as many, of one first ID, one zone that is fixed, one
-- opening SOA, and closed or not
abbrev pub AreAlike : List StatedMessage → List StatedMessage → Type 0
AreAlike before other = kept_of before ≡ kept_of other

-- what the octets fed leave: the octets after the last whole frame, and what the messages of the
-- whole frames say
pub record StreamLeaves (fed : List ℕ) (kept : StreamKept) (unfinished : List ℕ) : Type 0 where
  pub parts : List StatedMessage
  pub framed : IsFramed fed (octets_in parts) unfinished
  pub read : AreRead [] parts
  pub kept_is : kept ≡ kept_of parts

-- the source stands for the octets of a stream that it was fed and the records that it has given
abbrev pub StandsForStream : SourceState StreamKept → List ℕ → List Placed → Type 0
StandsForStream source fed given =
    StandsFor (StreamDecides fed) (StreamReads fed) (StreamLeaves fed) source fed given
