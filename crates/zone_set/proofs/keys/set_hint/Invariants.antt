use Rattle.zone_set.proofs.Common.{map, take, with_hint, ◌≡◌}
use Rattle.zone_set.proofs.keys.set_hint.Given as goal

abbrev pub invariant-loop-entry : goal.invariant-loop-entry
invariant-loop-entry l =
    (map (λ e. e.at) l.run ≡ map (λ e. e.at) l.initial.run)
    × (map (with_hint l.hint) (take l.entry-index l.run) ≡ take l.entry-index l.run)
