use Rattle.std.proofs.Common.{take}
use Rattle.command_line.proofs.Adding.{HasArguments}
use Rattle.command_line.proofs.reading.readable_command.Given as goal

-- it has the arguments so far
abbrev pub invariant-loop-argument : goal.invariant-loop-argument
invariant-loop-argument l = HasArguments l.fn.row.word.now (take l.argument-index l.argument-items) l.command
