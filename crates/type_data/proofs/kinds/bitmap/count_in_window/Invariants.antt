use Rattle.type_data.proofs.Common.{AllByRecursion, take, ◌/◌, ◌≡◌}
use Rattle.type_data.proofs.kinds.bitmap.count_in_window.Given as goal

abbrev pub invariant-loop-index : goal.invariant-loop-index
invariant-loop-index l = AllByRecursion (λ n. n / 256 ≡ l.window) (take l.index l.types)
