use Rattle.std.proofs.Common.{drop}
use Rattle.command_line.proofs.Rows.{Has_all}
use Rattle.command_line.proofs.call.Call.has_all.Given as goal

-- all so far are given
abbrev pub invariant-loop-argument : goal.invariant-loop-argument
invariant-loop-argument l = Has_all l.self (drop l.argument-index l.arguments) → Has_all l.self l.arguments
