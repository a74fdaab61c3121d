use Rattle.std.proofs.Common.{◌≡◌, ◌+◌, length}
use Rattle.zone_name.proofs.labels.Labels.len.Given as goal

abbrev pub invariant-loop : goal.invariant-loop
invariant-loop l = l.len + length l.iterator' ≡ length l.self
