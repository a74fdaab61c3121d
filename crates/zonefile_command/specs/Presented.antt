-- What is left if the text of a zone for people isn't written whole (this project's own).
use Rattle.std.specs.Prelude.{◌<◌, ℕ, List, length}
use Rattle.zone_rdata.specs.declared.fault.Fault.TheVariants.{ZoneTooLarge}
use Rattle.zone_rdata.specs.declared.fault.Place.TheVariants.{Whole}
use Rattle.zone_rdata.specs.declared.fault.Stop.{Stop}
use Rattle.zone_rdata.specs.declared.fault.Stop.TheVariants.{Refused, Write, Memory}
use Rattle.zone_print.specs.Canonical.{text_limit}
use Rattle.zone_print.specs.Device.{Device, Fails, IsLeft}
use Rattle.zone_print.specs.Writing.{AppendsPart}
use Rattle.words_print.specs.Shown.{IsShownText}

-- Why what is shown for a text isn't written whole: memory was refused before the first octet, or the
-- writer failed after a proper prefix
pub data StopsShowing (text : List ℕ) (old new : Device) : Stop → Type 0 where
  memory : IsLeft old new → StopsShowing text old new Memory
  write : (shown : List ℕ) → IsShownText text shown → AppendsPart old.octets new.octets shown
      → Fails old new → StopsShowing text old new Write

-- The same of a zone with this canonical text. One over the limit leaves the writer as it was.
pub data StopsPresenting (text : List ℕ) (old new : Device) : Stop → Type 0 where
  large : text_limit < length text → IsLeft old new
      → StopsPresenting text old new (Refused ZoneTooLarge Whole)
  stops : (stop : Stop) → StopsShowing text old new stop → StopsPresenting text old new stop
