use Rattle.std.proofs.Common.{◌≡◌, map, take}
use Rattle.clap.specs.Words.{app_of}
use Rattle.command_line.specs.Calls.{program_of}
use Rattle.command_line.specs.Program.{app_of_command}
use Rattle.command_line.proofs.Adding.{unversioned}
use Rattle.command_line.proofs.reading.readable.Given as goal

-- it has the commands so far
abbrev pub invariant-loop-row : goal.invariant-loop-row
invariant-loop-row l = app_of l.command ≡ unversioned (program_of l.fn.program.name.now (map app_of_command (take l.row-index l.row-items)))
