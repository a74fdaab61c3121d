-- The commands that a program's table has (this project's own).
use Rattle.std.specs.Prelude.{map}
use Rattle.clap.specs.Words.{App, Rule, Text}
use Rattle.command_line.specs.Calls.{CommandRow, Commands, command_with, program_of, rule_for}
use Rattle.command_line.specs.declared.program.Program.{Program}
use Rattle.command_line.specs.declared.program.ProgramCommand.{ProgramCommand}
use Rattle.command_line.specs.declared.program.Argument.{Argument}
use Rattle.command_line.specs.declared.program.ArgumentKind.{ArgumentKind}

abbrev pub rule_of_argument : Argument → Rule
rule_of_argument argument = rule_for argument.kind argument.id.now

-- the command as `clap` sees it
abbrev pub app_of_command : ProgramCommand → App
app_of_command command =
    command_with command.word.now (map rule_of_argument command.arguments.now)

-- the program as `clap` sees it
abbrev pub app_described : Program → App
app_described program = program_of program.name.now (map app_of_command program.commands.now)

abbrev pub argument_described : Argument → Text × ArgumentKind
argument_described argument = (argument.id.now, argument.kind)

abbrev pub row_described : ProgramCommand → CommandRow
row_described command = record {
  word = command.word.now;
  arguments = map argument_described command.arguments.now;
}

-- its commands
abbrev pub described : Program → Commands
described program = record {
  rows = map row_described program.commands.now;
  app = app_described program;
}
