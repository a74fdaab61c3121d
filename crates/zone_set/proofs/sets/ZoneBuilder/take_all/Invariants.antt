use Rattle.zone_set.proofs.Common.{AddsEach, length, ◌≡◌}
use Rattle.zone_set.proofs.Lists.Taking.{HasTaken}
use Rattle.zone_set.proofs.sets.ZoneBuilder.take_all.Given as goal

-- some first records of the source were taken, and nothing else of it changed
abbrev pub invariant-loop-placed : goal.invariant-loop-placed
invariant-loop-placed g l =
    HasTaken (λ taken. AddsEach l.fn.self taken l.self) (g.S.RrSource.pending l.fn.source) (g.S.RrSource.pending l.source)
    × (g.S.RrSource.beside l.source ≡ g.S.RrSource.beside l.fn.source)

abbrev pub decreases-loop-placed : goal.decreases-loop-placed
decreases-loop-placed g l = length (g.S.RrSource.pending l.source).records
