use Rattle.std.specs.Iterator.Adapters.{zip_first, zip_second}
use Rattle.zone_set.proofs.Lists.Once.{HasOnce}
use Rattle.zone_set.proofs.kept_list.KeptList.each_once.Given as goal

-- some first records were listed once each, and the others are left with their places
abbrev pub invariant-loop-rr : goal.invariant-loop-rr
invariant-loop-rr l = record {
  can_next : goal.iterator-loop-rr.can_next l.rr-iterator;
  is_finite : goal.iterator-loop-rr.is_finite l.rr-iterator;
  once : HasOnce l.fn.self l.list (zip_first l.rr-iterator) (zip_second l.rr-iterator) l.left l.seen;
}
