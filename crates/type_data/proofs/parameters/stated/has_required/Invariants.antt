use Rattle.type_data.proofs.Common.{AllByRecursion, drop, is_some, true, ◌≡◌}
use Rattle.std.specs.BTreeMap.{get}
use Rattle.std.specs.Ordering.{nat_cmp}
use Rattle.type_data.proofs.parameters.stated.has_required.Given as goal

abbrev pub invariant-loop-number : goal.invariant-loop-number
invariant-loop-number l =
    (AllByRecursion (λ n. is_some (get nat_cmp l.stated.values n) ≡ true) (drop l.number-index l.stated.required.items) → AllByRecursion (λ n. is_some (get nat_cmp l.stated.values n) ≡ true) l.stated.required.items)
    × (AllByRecursion (λ n. is_some (get nat_cmp l.stated.values n) ≡ true) l.stated.required.items → AllByRecursion (λ n. is_some (get nat_cmp l.stated.values n) ≡ true) (drop l.number-index l.stated.required.items))
