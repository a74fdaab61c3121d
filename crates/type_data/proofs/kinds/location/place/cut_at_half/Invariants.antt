use Rattle.type_data.proofs.Common.{AllByRecursion, IsNoHalf, map, raw_item, take}
use Rattle.type_data.proofs.kinds.location.place.cut_at_half.Given as goal

abbrev pub invariant-loop-at : goal.invariant-loop-at
invariant-loop-at l = AllByRecursion (IsNoHalf l.axis) (map raw_item (take l.at l.items))
