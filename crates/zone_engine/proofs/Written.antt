-- From the zone that an input is read as to the canonical text that is written of it.
use Rattle.zone_engine.proofs.Common.{common_steps, ◌≡◌, ℕ, ◌<◌, ◌≤◌, ◌-◌, ◌^◌, List, length, min, refl, Vec, Global, Option, None, IfSome, Result, IfOk, OnOk, Appends, Octets, ZoneTooLarge, Whole, Stop, Placed, Zone, canon, text_limit, StopsPush, StopsWrite, Input, IsInput, InputDenotes, InputDenotesWithin, InputReads, InputStates, ReadsZoneWithin, IsOfBytes, Normalises, NormalisesTo, StopsNormalise, WritesPrefix, IfRefused, IsRefusal, IsRefusalWithin, reading, too_large, Device, IsOfReading, ReadsToEnd, StopsReading, inl, IfSome_then, arith}
use Rattle.zone_engine.proofs.Reading.Readers.{if_refused}
use Rattle.zone_engine.proofs.Feeding.{is_input}

abbrev pub ReadIsStated : Type 0
ReadIsStated = (input : Input) (placed : List Placed) → IsInput input → InputReads input placed None → InputStates input placed

-- an input within a limit that is no greater than the limit of canonical texts
module _ (limit : ℕ) (below : limit ≤ text_limit) (input : Input) (z : Zone) (reads : ReadsZoneWithin limit input z) where
  pub denotes_zone : ReadIsStated → IsInput input → length (canon z) ≤ text_limit → InputDenotesWithin limit input z
  denotes_zone stated is short = (reads.short, record { short = omega (arith, reads.short, below); placed = reads.reads.placed; states = stated input reads.reads.placed is reads.reads.reads; makes = record { zone = reads.reads.zone; same = reads.reads.same; text_short = short } })

  pub large : text_limit < length (canon z) → IsRefusalWithin limit input ZoneTooLarge Whole
  large long = reading reads.reads.placed None ZoneTooLarge Whole reads.short reads.reads.reads (too_large z refl reads.reads.zone reads.reads.same long)

module _ (input : Input) (z : Zone) (reads : ReadsZoneWithin text_limit input z) where
  denotes : ReadIsStated → IsInput input → length (canon z) ≤ text_limit → InputDenotes input z
  denotes stated is short = (denotes_zone text_limit (omega arith) input z reads stated is short).1

  too_long : text_limit < length (canon z) → IsRefusal input ZoneTooLarge Whole
  too_long = large text_limit (omega arith) input z reads

  pub refused_pushing : (stop : Stop) → StopsPush text_limit (canon z) stop → IfRefused stop (IsRefusal input)
  refused_pushing stop given = grind (arith, too_long)

  refused_writing : (old new : Device) (stop : Stop) → StopsWrite text_limit (canon z) old new stop → IfRefused stop (IsRefusal input)
  refused_writing old new stop given = grind (arith, too_long)

  front_written : ReadIsStated → IsInput input → (old new : Device) (stop : Stop) → StopsWrite text_limit (canon z) old new stop → WritesPrefix input old.octets new.octets
  front_written stated is old new stop given = grind arith

pub normalises : (input : Input) (z : Zone) → ReadsZoneWithin text_limit input z → ReadIsStated → IsInput input → (old new : Option Octets) (count : ℕ) → Appends old new (canon z) → length (canon z) ≤ text_limit → count ≡ min (length z.records) (2 ^ 64 - 1) → Normalises input old new count
normalises input z reads stated is old new count written short counted = record { zone = z; denotes = denotes input z reads stated is short; written = written; counted = counted }

pub normalises_to : (input : Input) (z : Zone) → ReadsZoneWithin text_limit input z → ReadIsStated → IsInput input → (r : Result (Vec ℕ Global) Stop) → IfOk r (λ text. text.items ≡ canon z) → OnOk r (length (canon z) ≤ text_limit) → IfOk r (λ text. NormalisesTo input text.items)
normalises_to input z reads stated is r same short = grind arith

-- a stop of reading leaves the writer as it was
pub stops_unwritten : (form : Octets → Input) (reader writer : Device) (stop : Stop) → IsOfReading stop → StopsNormalise form reader writer writer stop
stops_unwritten form reader writer stop is = grind (arith, common_steps)

-- what stops the writing of a zone that is read, of the writer and of the reader
module _ (form : Octets → Input) (reader old new : Device) (z : Zone) (stop : Stop) (reads : IfSome reader.octets (λ octets. ReadsZoneWithin text_limit (form octets) z)) (stops : StopsWrite text_limit (canon z) old new stop) where
  pub stops_writing : ReadIsStated → ((octets : Octets) → ReadsZoneWithin text_limit (form octets) z → IsInput (form octets)) → StopsNormalise form reader old new stop
  stops_writing stated is = grind (arith, IfSome_then, front_written)

  pub stops_when_read : (reader' : Device) → ReadsToEnd text_limit reader reader' → StopsReading text_limit form reader reader' stop
  stops_when_read reader' end = record {
    few = end.few;
    fault = IfSome_then _ reads (λ octets r. refused_writing (form octets) z r old new stop stops);
    whole = if_refused _ stop (inl end.whole);
    tells = grind (arith, end.works);
  }

-- printing a text stops for no failed read and no failed write
pub pushing_is_of_bytes : (limit : ℕ) (text : Octets) (stop : Stop) → StopsPush limit text stop → IsOfBytes stop
pushing_is_of_bytes limit text stop given = grind arith

-- what is denoted within a limit is denoted
pub denotes_within : (limit : ℕ) (form : Octets → Input) (known : Option Octets) (z : Zone) → IfSome known (λ octets. InputDenotesWithin limit (form octets) z) → IfSome known (λ octets. InputDenotes (form octets) z)
denotes_within limit form known z denotes = grind arith

pub ruleset normalised_bytes = (is_input, normalises_to, refused_pushing, pushing_is_of_bytes)
