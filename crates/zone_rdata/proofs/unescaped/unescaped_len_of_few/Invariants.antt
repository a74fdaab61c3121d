use Rattle.zone_rdata.proofs.Common.{length, ◌-◌, ◌≤◌, prefix_len, is_unescaped}
use Rattle.zone_rdata.proofs.unescaped.unescaped_len_of_few.Given as goal

abbrev pub invariant-loop-len : goal.invariant-loop-len
invariant-loop-len l = l.len ≤ prefix_len is_unescaped l.octets

abbrev pub decreases-loop-len : goal.decreases-loop-len
decreases-loop-len l = length l.octets - l.len
