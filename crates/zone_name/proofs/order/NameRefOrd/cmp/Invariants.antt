use Rattle.zone_name.proofs.Common.{◌≡◌, length, ordering_then, name_cmp}
use Rattle.zone_name.proofs.order.NameRefOrd.cmp.Given as goal

abbrev pub invariant-loop-label : goal.invariant-loop-label
invariant-loop-label l = (length l.labels ≡ length l.others) × (ordering_then (name_cmp l.labels l.others) l.order ≡ name_cmp l.fn.self l.fn.other)
