use Rattle.sorted_chunks.proofs.Halving.{chunks_split}
use Rattle.sorted_chunks.proofs.chunks.SortedChunks.split.Goals as goal

-- each half has an element
pub invariant_of-self-2 : goal.invariant_of-self-2
invariant_of-self-2 g c =
    let halves = c.in_ok-lower.ensures in
    rw c.in_ok-insert.ensures.items
    (c.self.invariant.0, chunks_split c.self.inside.chunks.items c.args.chunk c.in_ok-lower.lower c.in_ok-lower.upper c.self.invariant.1 halves.lower_some halves.upper_some)
