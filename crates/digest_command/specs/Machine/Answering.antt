-- What private functions leave that answer an order.
use Rattle.std.specs.Prelude.{ℕ, List}
use Rattle.zone_rdata.specs.declared.fault.Stop.{Stop}
use Rattle.zone_rdata.specs.declared.fault.Stop.TheVariants.{Memory}
use Rattle.zone_print.specs.Canonical.{text_limit}
use Rattle.zone_print.specs.Device.{Device}
use Rattle.zone_engine.specs.Compare.{IsAccepted}
use Rattle.zone_engine.specs.Input.{Input}
use Rattle.zone_engine.specs.Normalise.{IsOfReading}
use Rattle.zone_engine.specs.Reading.{ReadsToEnd, StopsReading}

-- the input was refused, couldn't be read, or memory was refused for it or for the answer
pub data StopsAnswer (form : List ℕ → Input) (old new : Device) : Stop → Type 0 where
  unread : (stop : Stop) → IsOfReading stop → StopsReading text_limit form old new stop
      → StopsAnswer form old new stop
  untold : IsAccepted form old.octets → ReadsToEnd text_limit old new
      → StopsAnswer form old new Memory
