-- What normalising an input answers and leaves (this project's own).
use Rattle.std.specs.Prelude.{◌≡◌, ℕ, ◌-◌, ◌^◌, List, length, min, Option, IfSome, ◌⊎◌}
use Rattle.std.specs.Io.KnownBytes.{Appends, Keeps}
use Rattle.zone_rdata.specs.declared.fault.Stop.{Stop}
use Rattle.zone_rdata.specs.declared.fault.Stop.TheVariants.{Refused, Read, Write, Memory}
use Rattle.zone_set.specs.Zone.{Zone}
use Rattle.zone_print.specs.Canonical.{canon}
use Rattle.zone_print.specs.Device.{Device}
use Rattle.zone_print.specs.Writing.{AppendsPart, TellsWrite}
use Rattle.zone_engine.specs.Input.{Input, InputDenotes}

-- The input denotes a zone, its canonical text and nothing else was written, and the answer is the
-- number of its records.
pub record Normalises (input : Input) (old new : Option (List ℕ)) (count : ℕ) : Type 0 where
  pub zone : Zone
  pub denotes : InputDenotes input zone
  pub written : Appends old new (canon zone)
  pub counted : count ≡ min (length zone.records) (2 ^ 64 - 1)

-- the input denotes a zone, and this is its canonical text
pub record NormalisesTo (input : Input) (text : List ℕ) : Type 0 where
  pub zone : Zone
  pub denotes : InputDenotes input zone
  pub canonical : text ≡ canon zone

-- a refused input writes nothing, nor does one that can't be read
abbrev pub WritesNothing : Stop → Option (List ℕ) → Option (List ℕ) → Type 0
WritesNothing (Refused fault place) old new = Keeps old new
WritesNothing Read old new = Keeps old new
WritesNothing stop old new = Unit {0}

-- the stops of a call that has no reader and no writer
abbrev pub IsOfBytes : Stop → Type 0
IsOfBytes (Refused fault place) = Unit {0}
IsOfBytes Read = ⊥
IsOfBytes Write = ⊥
IsOfBytes Memory = Unit {0}

-- the stops of a call that has a reader and no writer: the input is refused, the reader answered an
-- error, or memory was refused
abbrev pub IsOfReading : Stop → Type 0
IsOfReading Write = ⊥
IsOfReading stop = Unit {0}

-- nothing was written, or a proper prefix of the canonical text of the zone that the input denotes
abbrev pub WritesPrefix : Input → Option (List ℕ) → Option (List ℕ) → Type 0
WritesPrefix input old new =
    Keeps old new ⊎ ((z : Zone) × InputDenotes input z × AppendsPart old new (canon z))

-- What normalising the octets of a reader, where they are known, leaves of the writer where it
-- stops: a refused input and one that can't be read write nothing, any other nothing or a proper
-- prefix of its canonical text; and `Write` tells that the writer failed, any other stop that it
-- works.
pub record StopsNormalise (form : List ℕ → Input) (reader old new : Device)
    (stop : Stop) : Type 0 where
  pub nothing : WritesNothing stop old.octets new.octets
  pub prefix : IfSome reader.octets (λ octets. WritesPrefix (form octets) old.octets new.octets)
  pub tells : TellsWrite old new stop
