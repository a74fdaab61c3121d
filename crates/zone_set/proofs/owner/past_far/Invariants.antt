use Rattle.zone_set.proofs.Common.{List, length, wire, ℕ, ◌≡◌, ◌≤◌, ◌⊎◌}
use Rattle.zone_set.specs.Machine.Owner.{IsEndOf}
use Rattle.zone_set.proofs.owner.past_far.Given as goal

abbrev pub invariant-loop-rest : goal.invariant-loop-rest
invariant-loop-rest l =
    ((labels : List (List ℕ)) → l.fn.name ≡ wire labels → IsEndOf labels l.left)
    × ((l.left ≡ l.fn.name) ⊎ (l.fn.near ≤ length l.left))

abbrev pub decreases-loop-rest : goal.decreases-loop-rest
decreases-loop-rest l = length l.left
