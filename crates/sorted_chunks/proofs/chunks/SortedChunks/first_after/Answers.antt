use Rattle.sorted_chunks.proofs.Common.{arith, ap, length}
use Rattle.sorted_chunks.proofs.Neighbours.{first_of_chunk, lent}
use Rattle.sorted_chunks.proofs.chunks.SortedChunks.first_after.Goals as goal

pub returns-then-chunk-len-2 : goal.returns-then-chunk-len-2
returns-then-chunk-len-2 g c = first_of_chunk c.args.self.now _ c.args.position.offset c.behind-self.inside.head c.behind-self.inside.rest.items (grind (arith, lent)) (omega (arith, ap length c.self.view_is)) (grind (arith, lent))
