use Rattle.std.proofs.Common.{length}
use Rattle.zone_files.specs.Machine.Lines.{AreLines}
use Rattle.zone_files.proofs.Expansions.Lines.{StayBehind}
use Rattle.zone_files.proofs.expansion.lines.lines_owner.Given as goal

-- the lines behind leave what holds before them
abbrev pub invariant-lines : goal.invariant-lines
invariant-lines l = record {
  before : AreLines l.front;
  behind : StayBehind l.origin l.lines l.front;
}

abbrev pub decreases-lines : goal.decreases-lines
decreases-lines l = length l.front
