use Rattle.std.proofs.Common.{length}
use Rattle.zone_files.specs.Machine.Stacking.{EndsOutward, IsSameOrShorter}
use Rattle.zone_files.proofs.stack.include_stack.IncludeStack.go_on_outward.Given as goal

-- so many files have ended
abbrev pub invariant-ended : goal.invariant-ended
invariant-ended l = record {
  ends : EndsOutward l.fn.self l.self l.fn.out.items l.out.items;
  same : IsSameOrShorter l.fn.self l.self;
}

abbrev pub decreases-ended : goal.decreases-ended
decreases-ended l = length l.self.outer
