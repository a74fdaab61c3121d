-- How an input is to be read: as a master file or as a zone transfer (this project's own).
use Rattle.std.specs.Prelude.{ℕ, List, Option, Some, None}
use Rattle.zone_name.specs.Common.{Labels}
use Rattle.zone_engine.specs.Input.{Input, file, transfer}
use Rattle.zone_engine.specs.declared.form.Form.{Form}
use Rattle.zone_engine.specs.declared.form.Form.TheVariants.{File, Transfer}

-- the input that octets are in a form
abbrev pub read_as : Form → List ℕ → Input
read_as (File origin) octets = file origin.now octets
read_as Transfer octets = transfer octets

-- how octets are read with this origin: as a master file's, and without one as a transfer's
abbrev pub read_as_with : Option Labels → List ℕ → Input
read_as_with None octets = transfer octets
read_as_with (Some origin) octets = file origin octets
