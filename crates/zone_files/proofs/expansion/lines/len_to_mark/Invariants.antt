use Rattle.std.proofs.Common.{drop, length, ◌+◌, ◌-◌, ◌≡◌, ◌≤◌}
use Rattle.zone_text.proofs.Scanning.StopMarks.{len_to}
use Rattle.zone_files.specs.Machine.Lines.{is_mark}
use Rattle.zone_files.proofs.expansion.lines.len_to_mark.Given as goal

-- the octets before the place are no marks
abbrev pub invariant-loop-seen : goal.invariant-loop-seen
invariant-loop-seen l = record {
  within : l.seen ≤ length l.octets;
  so_far : len_to is_mark l.octets ≡ l.seen + len_to is_mark (drop l.seen l.octets);
}

abbrev pub decreases-loop-seen : goal.decreases-loop-seen
decreases-loop-seen l = length l.octets - l.seen
