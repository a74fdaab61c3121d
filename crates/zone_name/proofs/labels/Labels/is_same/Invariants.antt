use Rattle.std.proofs.Common.{◌≡◌, ◌↔◌}
use Rattle.zone_name.proofs.labels.Labels.is_same.Given as goal

abbrev pub invariant-loop-label : goal.invariant-loop-label
invariant-loop-label l = (l.label-iterator ≡ l.others) ↔ (l.fn.self ≡ l.fn.other)
