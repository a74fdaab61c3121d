use Rattle.sorted_chunks.proofs.Common.{◌≡◌, ◌≤◌, ◌+◌, ◌-◌, ◌^◌, min, drop, length, joined}
use Rattle.sorted_chunks.proofs.chunks.SortedChunks.len.Given as goal

-- the number so far and that of the chunks left
abbrev pub invariant-loop-chunk : goal.invariant-loop-chunk
invariant-loop-chunk g l = record {
  small : l.len ≤ 2 ^ 64 - 1;
  sum : min (l.len + length (joined (drop l.chunk-index l.chunk-items))) (2 ^ 64 - 1) ≡ min (length (joined l.self)) (2 ^ 64 - 1);
}
