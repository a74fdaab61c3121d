use Rattle.std.specs.Iterator.Adapters.{zip_first, zip_second}
use Rattle.zone_set.proofs.Common.{AllByRecursion, ℕ, ◌≡◌}
use Rattle.zone_set.proofs.Lists.Thinning.{HasThinned}
use Rattle.zone_set.proofs.kept_list.KeptList.without_repeats.Given as goal

-- some first records were listed again or dropped, and the others are left with their places
abbrev pub invariant-loop-rr : goal.invariant-loop-rr
invariant-loop-rr l = record {
  can_next : goal.iterator-loop-rr.can_next l.rr-iterator;
  is_finite : goal.iterator-loop-rr.is_finite l.rr-iterator;
  thinned : HasThinned l.fn.self l.list (zip_first l.rr-iterator) (zip_second l.rr-iterator);
  one_class : (k : ℕ) × AllByRecursion (λ p. p.rr.class ≡ k) l.fn.self × AllByRecursion (λ p. p.rr.class ≡ k) l.list;
}
