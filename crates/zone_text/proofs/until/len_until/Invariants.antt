use Rattle.zone_text.proofs.Common.{drop, length, ◌+◌, ◌-◌, ◌≡◌, ◌≤◌}
use Rattle.zone_text.proofs.Scanning.StopMarks.{is_either, len_to}
use Rattle.zone_text.proofs.until.len_until.Given as goal

abbrev pub invariant-loop-len : goal.invariant-loop-len
invariant-loop-len l = record {
  within : l.len ≤ length l.octets;
  so_far : len_to (is_either l.one l.other) l.octets ≡ l.len + len_to (is_either l.one l.other) (drop l.len l.octets);
}

abbrev pub decreases-loop-len : goal.decreases-loop-len
decreases-loop-len l = length l.octets - l.len
