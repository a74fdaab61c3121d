use Rattle.std.proofs.Common.{◌/◌, arith}
use Rattle.sorted_chunks.proofs.Halving.{halves_lower, halves_upper}
use Rattle.sorted_chunks.proofs.chunk.Chunk.halves.Goals as goal

pub returns-then-offset-middle : goal.returns-then-offset-middle
returns-then-offset-middle g c = halves_lower _ _ _ _ (c.len-middle.result / 2) _ _ c.in_ok-lower.ensures.lower c.in_ok-lower.ensures.upper c.in_ok-insert.ensures.taken (omega arith) (omega (arith, c.len-middle.ensures)) (omega (arith, c.len-middle.ensures))

pub returns : goal.returns
returns g c = halves_upper _ _ _ _ (c.len-middle.result / 2) _ _ c.in_ok-lower.ensures.lower c.in_ok-lower.ensures.upper c.in_ok-insert-2.ensures.taken (omega arith) (omega arith) (omega (arith, c.len-middle.ensures)) (omega (arith, c.len-middle.ensures))
