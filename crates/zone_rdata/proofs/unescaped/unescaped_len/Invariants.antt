use Rattle.zone_rdata.proofs.Common.{length, ◌-◌, ◌≤◌, prefix_len, is_unescaped}
use Rattle.zone_rdata.proofs.unescaped.unescaped_len.Given as goal

abbrev pub invariant-loop-at : goal.invariant-loop-at
invariant-loop-at l = l.at ≤ prefix_len is_unescaped l.octets

abbrev pub decreases-loop-at : goal.decreases-loop-at
decreases-loop-at l = length l.octets - l.at
