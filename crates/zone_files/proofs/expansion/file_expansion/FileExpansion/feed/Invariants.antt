use Rattle.std.proofs.Common.{length}
use Rattle.zone_files.specs.Machine.Expanding.{IsExpander, TakesFront}
use Rattle.zone_files.proofs.Expansions.Turning.{TakesSoFar}
use Rattle.zone_files.proofs.expansion.file_expansion.FileExpansion.feed.Given as goal

-- a front of the piece was taken
abbrev pub invariant-entries : goal.invariant-entries
invariant-entries l = record {
  is : IsExpander l.self;
  front : TakesFront l.fn.self l.piece l.rest l.self l.fn.out.items l.out.items;
  some : TakesSoFar l.piece l.rest l.fn.self l.self;
}

abbrev pub decreases-entries : goal.decreases-entries
decreases-entries l = length l.rest
