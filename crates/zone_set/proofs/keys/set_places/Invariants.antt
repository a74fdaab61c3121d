use Rattle.zone_set.proofs.Common.{length, map, ◌-◌, ◌≡◌}
use Rattle.zone_set.proofs.keys.set_places.Given as goal

abbrev pub invariant-loop-next : goal.invariant-loop-next
invariant-loop-next l = map (λ e. e.at) l.run ≡ map (λ e. e.at) l.initial.run

abbrev pub decreases-loop-next : goal.decreases-loop-next
decreases-loop-next l = length l.run - l.next
