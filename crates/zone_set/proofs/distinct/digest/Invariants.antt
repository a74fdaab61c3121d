use Rattle.zone_set.proofs.Common.{length, ◌/◌, ◌≡◌}
use Rattle.zone_set.specs.Machine.Distinct.{mixed, mixed_with}
use Rattle.zone_set.proofs.distinct.digest.Given as goal

-- what is left is to be mixed with what was made of the octets before it
abbrev pub invariant-loop-eight : goal.invariant-loop-eight
invariant-loop-eight l =
    mixed_with (length l.left / 8) l.digest l.left ≡ mixed_with (length l.fn.octets / 8) (mixed l.fn.seed (length l.fn.octets)) l.fn.octets

abbrev pub decreases-loop-eight : goal.decreases-loop-eight
decreases-loop-eight l = length l.left
