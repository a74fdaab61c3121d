use Rattle.std.proofs.Common.{◌≡◌, ℕ, List, length}
use Rattle.zone_name.specs.Common.{Labels}
use Rattle.record_places.specs.Machine.SoFar.{Finds}
use Rattle.record_places.proofs.first_lines.take.Given as goal

-- whatever was found before, the lines go on from there
abbrev pub invariant-records : goal.invariant-records
invariant-records l = record {
  finds : (origin : Labels) (fed : List ℕ) → Finds origin l.initial.source fed l.sorted l.initial.lines → Finds origin l.source fed l.sorted l.lines;
  held : l.source.held ≡ l.initial.source.held;
}

abbrev pub decreases-records : goal.decreases-records
decreases-records l = length l.source.pending.records
