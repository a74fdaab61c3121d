-- From what is written and told to what a run leaves that answers with a line.
use Rattle.std.proofs.Common.{ℕ, List}
use Rattle.zone_rdata.specs.declared.fault.Stop.{Stop}
use Rattle.zone_rdata.specs.declared.fault.Stop.TheVariants.{Memory, Read, Refused, Write}
use Rattle.zone_print.specs.Device.{Device}
use Rattle.zone_print.specs.Writing.{IsFailedWrite}
use Rattle.zone_engine.specs.Telling.{TellsLine, WritesPartOfLine, stop_line, stop_status}
use Rattle.command_input.specs.Answering.{Answers, outputs, unanswered}

-- a line that wasn't written whole is told as a failed write
pub not_answered : (line : List ℕ) (answer : ℕ) (output output' errors errors' : Device) (why : Stop) (status : ℕ) → WritesPartOfLine line output output'
    → IsFailedWrite output output' why → TellsLine (stop_line why) (stop_status why) errors errors' status
    → Answers line answer (outputs output output' errors errors') status
not_answered line answer output output' errors errors' (Refused fault place) status written failed told = absurd failed
not_answered line answer output output' errors errors' Read status written failed told = absurd failed
not_answered line answer output output' errors errors' Write status written failed told = unanswered status written failed told
not_answered line answer output output' errors errors' Memory status written failed told = absurd failed
