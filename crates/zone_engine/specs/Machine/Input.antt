-- What private functions hold of an input: that its form is one, and what its octets so far decide.
use Rattle.std.specs.Prelude.{ℕ, List, Option, ⊤}
use Rattle.zone_name.specs.Common.{Labels}
use Rattle.zone_name.specs.Name.{IsName}
use Rattle.zone_rdata.specs.declared.fault.Fault.{Fault}
use Rattle.zone_rdata.specs.declared.fault.Place.{Place}
use Rattle.zone_rdata.specs.declared.record.Placed.{Placed}
use Rattle.zone_text.specs.Decided as file_decides
use Rattle.zone_wire.specs.Stream as stream_decides
use Rattle.zone_engine.specs.Input.{Input, file, transfer}
use Rattle.zone_engine.specs.declared.form.Form.{Form}
use Rattle.zone_engine.specs.declared.form.Form.TheVariants.{File, Transfer}

-- how octets are read: as a master file under an origin, or as a transfer
pub data ReadAs : Type 0 where
  as_file : Labels → ReadAs
  as_transfer : ReadAs

-- octets as the input that is read so
abbrev pub input_of : ReadAs → List ℕ → Input
input_of (as_file origin) octets = file origin octets
input_of as_transfer octets = transfer octets

abbrev pub form_of : Form → ReadAs
form_of (File origin) = as_file origin.now
form_of Transfer = as_transfer

-- the origin of a master file is a name
abbrev pub IsForm : ReadAs → Type 0
IsForm (as_file origin) = IsName origin
IsForm as_transfer = ⊤

-- what is decided of an input by the octets so far, whatever octets follow them
abbrev pub Decides : Input → List Placed → Option (Fault × Place) → Type 0
Decides (file origin octets) placed ending = file_decides.FileDecides origin octets placed ending
Decides (transfer octets) placed ending = stream_decides.StreamDecides octets placed ending
