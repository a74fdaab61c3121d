use Rattle.std.specs.Iterator.Adapters.{zip_first, zip_second}
use Rattle.zone_set.proofs.Common.{placed_at}
use Rattle.zone_set.proofs.Lists.Offering.{HasOffered}
use Rattle.zone_set.proofs.kept_list.offer.Given as goal

-- some first records were added, and the others are left with their places
abbrev pub invariant-loop-rr : goal.invariant-loop-rr
invariant-loop-rr g l = record {
  can_next : (goal.iterator-loop-rr g).can_next l.rr-iterator;
  is_finite : (goal.iterator-loop-rr g).is_finite l.rr-iterator;
  offered : HasOffered (placed_at g.records l.places) l.builder (zip_first l.rr-iterator) (zip_second l.rr-iterator);
}
