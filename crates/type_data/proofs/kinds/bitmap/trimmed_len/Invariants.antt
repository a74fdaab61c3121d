use Rattle.type_data.proofs.Common.{get_or, length, ℕ, ◌≡◌, ◌≤◌}
use Rattle.type_data.proofs.kinds.bitmap.trimmed_len.Given as goal

abbrev pub invariant-loop-len : goal.invariant-loop-len
invariant-loop-len l = record {
  few : l.len ≤ length l.bits;
  after : (k : ℕ) → l.len ≤ k → get_or l.bits k 0 ≡ 0;
}

abbrev pub decreases-loop-len : goal.decreases-loop-len
decreases-loop-len l = l.len
