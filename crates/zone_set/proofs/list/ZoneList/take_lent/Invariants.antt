use Rattle.std.proofs.Common.{length, ◌≡◌, ◌++◌}
use Rattle.zone_set.proofs.Lists.Taking.{HasTaken}
use Rattle.zone_set.specs.Bounded.{IsBoundedBy}
use Rattle.zone_set.specs.Refusal.{records_of}
use Rattle.zone_set.specs.ZoneList.{Tells}
use Rattle.zone_set.proofs.list.ZoneList.take_lent.Given as goal

-- some first records of the source were listed, nothing else of it changed, and what is kept is bounded
abbrev pub invariant-loop-placed : goal.invariant-loop-placed
invariant-loop-placed g l =
    HasTaken (λ taken. Tells (l.fn.self ++ taken) l.self) (g.S.RrSource.pending l.fn.source) (g.S.RrSource.pending l.source)
    × (g.S.RrSource.beside l.source ≡ g.S.RrSource.beside l.fn.source)
    × IsBoundedBy 8 327943 (records_of l.self)

abbrev pub decreases-loop-placed : goal.decreases-loop-placed
decreases-loop-placed g l = length (g.S.RrSource.pending l.source).records
