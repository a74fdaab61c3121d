-- What printing a zone leaves where it stops, and what its answer tells of the writer.
use Rattle.std.specs.Prelude.{◌≡◌, ◌≢◌, ℕ, ◌<◌, ◌≤◌, List, [], ◌++◌, length, Option}
use Rattle.std.specs.Io.KnownBytes.{Appends}
use Rattle.zone_rdata.specs.declared.fault.Fault.TheVariants.{ZoneTooLarge}
use Rattle.zone_rdata.specs.declared.fault.Place.TheVariants.{Whole}
use Rattle.zone_rdata.specs.declared.fault.Stop.{Stop}
use Rattle.zone_rdata.specs.declared.fault.Stop.TheVariants.{Refused, Read, Write, Memory}
use Rattle.zone_print.specs.Device.{Device, WorksOn, Fails, IsLeft}

-- why a text was not made: it is longer than the limit, or memory was refused
pub data StopsPush (limit : ℕ) (text : List ℕ) : Stop → Type 0 where
  large : limit < length text → StopsPush limit text (Refused ZoneTooLarge Whole)
  memory : StopsPush limit text Memory

-- known octets of a writer grew by a proper prefix of the text: a part of it was written, but not
-- all
abbrev pub AppendsPart : Option (List ℕ) → Option (List ℕ) → List ℕ → Type 0
AppendsPart old new text = (front rest : List ℕ) × (rest ≢ []) × (text ≡ front ++ rest)
    × Appends old new front

-- Why a text was not written, and what that leaves of the writer: a text that is longer than the
-- limit leaves it as it was. One within the limit was written in part, but not all of it: memory
-- was refused and the writer works, or it failed.
pub data StopsWrite (limit : ℕ) (text : List ℕ) (old new : Device) : Stop → Type 0 where
  large : limit < length text → IsLeft old new
      → StopsWrite limit text old new (Refused ZoneTooLarge Whole)
  memory : length text ≤ limit → AppendsPart old.octets new.octets text → WorksOn old new
      → StopsWrite limit text old new Memory
  write : length text ≤ limit → AppendsPart old.octets new.octets text → Fails old new
      → StopsWrite limit text old new Write

-- the stop of one write: `Write`, and the writer failed
abbrev pub IsFailedWrite : Device → Device → Stop → Type 0
IsFailedWrite old new (Refused fault place) = ⊥
IsFailedWrite old new Read = ⊥
IsFailedWrite old new Write = Fails old new
IsFailedWrite old new Memory = ⊥

-- what a stop tells of a writer: `Write` that it failed, any other that it works
abbrev pub TellsWrite : Device → Device → Stop → Type 0
TellsWrite old new (Refused fault place) = WorksOn old new
TellsWrite old new Read = WorksOn old new
TellsWrite old new Write = Fails old new
TellsWrite old new Memory = WorksOn old new
