-- What a user is told of a command line that gives no order (this project's own).
use Rattle.std.specs.Prelude.{ℕ, List, codes, string_bytes}
use Rattle.command_line.specs.declared.no_call.NoCall.{NoCall}
use Rattle.command_line.specs.declared.no_call.NoCall.TheVariants as no_calls
use Rattle.zone_rdata.specs.declared.fault.Stop.TheVariants as stops
use Rattle.zone_engine.specs.Telling.{stop_line}
use Rattle.command_input.specs.declared.line_fault.LineFault.{LineFault}
use Rattle.command_input.specs.declared.line_fault.LineFault.TheVariants.{BadOrigin, Clap, Memory}

-- what is told of words that call nothing
abbrev pub told_fault : NoCall → LineFault
told_fault (no_calls.Shown text) = Clap text
told_fault (no_calls.Told text) = Clap text
told_fault no_calls.Memory = Memory

-- the exit status of a command line that gives no order
abbrev pub line_status : LineFault → ℕ
line_status BadOrigin = 2
line_status (Clap told) = 2
line_status Memory = 4

-- what the user is told of a bad origin, where a transfer has a word in its place
abbrev pub bad_origin_line : List ℕ
bad_origin_line = codes "F46 BadOrigin: an origin is an absolute name or the word transfer"

-- what the user is told of it, by a program that tells of a bad origin so
abbrev pub line_text : List ℕ → LineFault → List ℕ
line_text bad_origin BadOrigin = bad_origin
line_text bad_origin (Clap told) = string_bytes told
line_text bad_origin Memory = stop_line stops.Memory
