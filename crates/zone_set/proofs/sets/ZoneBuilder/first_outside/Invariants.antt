use Rattle.zone_set.proofs.Holding.Finishing.{Walks}
use Rattle.zone_set.proofs.sets.ZoneBuilder.first_outside.Given as goal

-- the records that are left tell of the whole
abbrev pub invariant-loop-rr : goal.invariant-loop-rr
invariant-loop-rr l = record {
  can_next : (goal.iterator-loop-rr).can_next l.rr-iterator;
  is_finite : (goal.iterator-loop-rr).is_finite l.rr-iterator;
  walks : Walks l.fn.self l.apex l.rr-iterator;
}
