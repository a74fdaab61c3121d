-- What a run leaves that answers with a line (this project's own).
use Rattle.std.specs.Prelude.{ℕ, List}
use Rattle.zone_rdata.specs.declared.fault.Stop.TheVariants as stops
use Rattle.zone_print.specs.Device.{Device, Fails, IsLeft, WorksOn}
use Rattle.zone_engine.specs.Telling.{TellsLine, WritesLine, WritesPartOfLine, stop_line}

-- standard output and standard error, before and after
pub record Outputs : Type 1 where
  pub output : Device
  pub output' : Device
  pub errors : Device
  pub errors' : Device

abbrev pub outputs : Device → Device → Device → Device → Outputs
outputs output output' errors errors' =
    record { output = output; output' = output'; errors = errors; errors' = errors' }

-- a line was written with this status; or the writer failed after a proper prefix of it, which is told
-- with status 4
pub data Answers (line : List ℕ) (answer : ℕ) (o : Outputs) : ℕ → Type 0 where
  answered : WritesLine line o.output o.output' → WorksOn o.output o.output'
      → IsLeft o.errors o.errors' → Answers line answer o answer
  unanswered : (status : ℕ) → WritesPartOfLine line o.output o.output' → Fails o.output o.output'
      → TellsLine (stop_line stops.Write) 4 o.errors o.errors' status → Answers line answer o status
