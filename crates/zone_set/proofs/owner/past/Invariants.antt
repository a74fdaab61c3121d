use Rattle.zone_set.proofs.Common.{drop, labels_of, ◌≡◌}
use Rattle.zone_set.proofs.owner.past.Given as goal

abbrev pub invariant-loop : goal.invariant-loop
invariant-loop l = labels_of l.left ≡ drop l.counter (labels_of l.fn.octets)
