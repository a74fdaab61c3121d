use Rattle.std.proofs.Common.{drop}
use Rattle.command_line.proofs.Rows.{IsOf_one}
use Rattle.command_line.proofs.call.Call.is_one_of.Given as goal

-- the call is of none so far
abbrev pub invariant-loop-row : goal.invariant-loop-row
invariant-loop-row l = IsOf_one l.self l.commands → IsOf_one l.self (drop l.row-index l.commands)
