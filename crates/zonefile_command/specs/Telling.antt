-- What is printed of a command line that is no order (this project's own).
use Rattle.std.specs.Prelude.{ℕ, List, codes, string_bytes}
use Rattle.zone_rdata.specs.declared.fault.Stop.TheVariants as stops
use Rattle.zone_print.specs.Device.{Device, IsLeft}
use Rattle.zone_engine.specs.Telling.{TellsLine, stop_line}
use Rattle.command_line.specs.declared.no_call.NoCall.TheVariants.{Shown, Told, Memory}
use Rattle.command_input.specs.Answering.{Answers, outputs}
use Rattle.command_input.specs.LineFault.{bad_origin_line}
use Rattle.zonefile_command.specs.declared.no_order.NoOrder.{NoOrder}
use Rattle.zonefile_command.specs.declared.no_order.NoOrder.TheVariants.{BadMost, BadOrigin, NoCall}

-- a number of faults that `--most` can't be
abbrev pub bad_most_line : List ℕ
bad_most_line = codes "error: --most needs a number from 1 to 4294967295"

-- a line on the error writer alone
abbrev pub TellsAlone : List ℕ → ℕ → Device → Device → Device → Device → ℕ → Type 0
TellsAlone line status output output' errors errors' answer =
    IsLeft output output' × TellsLine line status errors errors' answer

-- what is printed of a command line that is no order, with the exit status
abbrev pub AnswersNoOrder : NoOrder → Device → Device → Device → Device → ℕ → Type 0
AnswersNoOrder BadOrigin output output' errors errors' status =
    TellsAlone bad_origin_line 2 output output' errors errors' status
AnswersNoOrder BadMost output output' errors errors' status =
    TellsAlone bad_most_line 2 output output' errors errors' status
AnswersNoOrder (NoCall (Shown text)) output output' errors errors' status =
    Answers (string_bytes text) 0 (outputs output output' errors errors') status
AnswersNoOrder (NoCall (Told text)) output output' errors errors' status =
    TellsAlone (string_bytes text) 2 output output' errors errors' status
AnswersNoOrder (NoCall Memory) output output' errors errors' status =
    TellsAlone (stop_line stops.Memory) 4 output output' errors errors' status
