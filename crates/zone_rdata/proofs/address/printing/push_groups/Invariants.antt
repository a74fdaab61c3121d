use Rattle.zone_rdata.proofs.Common.{◌≡◌, ◌+◌, ◌*◌, ◌≤◌, ◌∷◌, ◌++◌, take, get_or, length, parted_groups}
use Rattle.zone_rdata.proofs.address.printing.push_groups.Given as goal

abbrev pub invariant-loop-group : goal.invariant-loop-group
invariant-loop-group l =
    (l.text.items ≡ l.fn.text.items ++ parted_groups (get_or l.groups 0 0 ∷ take l.group-index l.rest))
    × (length l.text.items ≤ length l.fn.text.items + (5 * l.group-index + 4))
