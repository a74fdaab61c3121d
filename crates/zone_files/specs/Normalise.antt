-- What normalising a source answers and leaves (this project's own).
use Rattle.std.specs.Prelude.{◌≡◌, ℕ, ◌-◌, ◌^◌, List, length, min, Option, IfSome, ◌⊎◌}
use Rattle.std.specs.Io.KnownBytes.{Appends, Keeps}
use Rattle.zone_rdata.specs.declared.fault.Stop.{Stop}
use Rattle.zone_set.specs.Zone.{Zone}
use Rattle.zone_print.specs.Canonical.{canon}
use Rattle.zone_print.specs.Device.{Device}
use Rattle.zone_print.specs.Writing.{AppendsPart, TellsWrite}
use Rattle.zone_engine.specs.Normalise.{WritesNothing}
use Rattle.zone_files.specs.Presentation.{Source, SourceDenotes}

-- the source denotes a zone, and this is its canonical text
pub record NormalisesSourceTo (source : Source) (text : List ℕ) : Type 0 where
  pub zone : Zone
  pub denotes : SourceDenotes source zone
  pub canonical : text ≡ canon zone

-- The source denotes a zone, its canonical text and nothing else was written, and the answer is the
-- number of its records.
pub record NormalisesSource (source : Source) (old new : Option (List ℕ))
    (count : ℕ) : Type 0 where
  pub zone : Zone
  pub denotes : SourceDenotes source zone
  pub written : Appends old new (canon zone)
  pub counted : count ≡ min (length zone.records) (2 ^ 64 - 1)

-- the source denotes a zone, and this is the number of its records
pub record CountsSource (source : Source) (count : ℕ) : Type 0 where
  pub zone : Zone
  pub denotes : SourceDenotes source zone
  pub counted : count ≡ min (length zone.records) (2 ^ 64 - 1)

-- nothing was written, or a proper prefix of the canonical text of the zone that the source denotes
abbrev pub WritesSourcePrefix : Source → Option (List ℕ) → Option (List ℕ) → Type 0
WritesSourcePrefix source old new =
    Keeps old new ⊎ ((z : Zone) × SourceDenotes source z × AppendsPart old new (canon z))

-- What normalising the octets of a reader, where they are known, leaves of the writer where it
-- stops: a refused source and one that can't be read write nothing, any other nothing or a proper
-- prefix of its canonical text; and `Write` means that the writer failed, any other stop that it
-- works.
pub record StopsNormaliseSource (form : List ℕ → Source) (reader old new : Device)
    (stop : Stop) : Type 0 where
  pub nothing : WritesNothing stop old.octets new.octets
  pub prefix :
      IfSome reader.octets (λ octets. WritesSourcePrefix (form octets) old.octets new.octets)
  pub tells : TellsWrite old new stop
