use Rattle.std.proofs.Common.{◌≡◌, drop}
use Rattle.zone_name.proofs.labels.Labels.past.Given as goal

abbrev pub invariant-loop : goal.invariant-loop
invariant-loop l = l.left ≡ drop l.counter l.fn.self
