use Rattle.zone_set.proofs.Common.{◌≡◌, ◌++◌, List, ℕ, length}
use Rattle.zone_set.proofs.order.have_same_eights.Given as goal

-- the same octets stand before what is left
abbrev pub invariant-loop-x : goal.invariant-loop-x
invariant-loop-x l = (front : List ℕ) × (l.fn.a ≡ front ++ l.left) × (l.fn.b ≡ front ++ l.right)

abbrev pub decreases-loop-x : goal.decreases-loop-x
decreases-loop-x l = length l.left
