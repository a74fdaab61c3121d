use Rattle.std.proofs.Common.{◌≤◌, length}
use Rattle.data_names.proofs.Walks.{HasPassed}
use Rattle.data_names.proofs.names.name_len.Given as goal

abbrev pub invariant-loop-first : goal.invariant-loop-first
invariant-loop-first l = HasPassed l.octets l.rest l.len × (l.len ≤ 255)

abbrev pub decreases-loop-first : goal.decreases-loop-first
decreases-loop-first l = length l.rest
