use Rattle.sorted_chunks.proofs.Common.{[], ◌-◌, ap, length, arith, All-tail, ◌∙◌}
use Rattle.sorted_chunks.proofs.Neighbours.{each_chunk, lent}
use Rattle.sorted_chunks.proofs.Parting.{parts_in, parts_none}
use Rattle.sorted_chunks.proofs.chunks.SortedChunks.place_of.Goals as goal

pub count_before-passed-requires : goal.count_before-passed-requires
count_before-passed-requires g c = rw (c.as_slice.ensures.value, c.self.view_is) (each_chunk (g.S.Sought.knows c.args.sought.now) _ c.requires)

pub returns-then-passed-eq0-clause-parts : goal.returns-then-passed-eq0-clause-parts
returns-then-passed-eq0-clause-parts g c = parts_none (g.S.Sought.follows c.args.sought.now) _ _ (rw c.self.view_is at c.self.invariant.1) (omega arith) (rw (c.as_slice.ensures.value, c.self.view_is) at c.count_before-passed.ensures.parts)

pub count_before-offset-requires : goal.count_before-offset-requires
count_before-offset-requires g c =
    let knows = g.S.Sought.knows c.args.sought.now in
    let size = ap length (c.as_slice.ensures.value ∙ c.self.view_is) in
    let own = c.behind-self.view_is ∙ lent c.args.self.now _ (c.count_before-passed.result - 1) _ c.self.view_is (omega (arith, ap length c.self.view_is)) c.index.ensures in
    let each = each_chunk knows c.args.self.now c.requires (c.count_before-passed.result - 1) [] (omega (arith, size, c.count_before-passed.ensures.bound)) in
    rw c.as_slice-2.ensures.value (All-tail knows c.behind-self.inside.head _ (rw (← own) at each))

pub returns-clause-parts : goal.returns-clause-parts
returns-clause-parts g c =
    let size = ap length (c.as_slice.ensures.value ∙ c.self.view_is) in
    parts_in (g.S.Sought.follows c.args.sought.now) c.args.self.now (c.count_before-passed.result - 1) c.behind-self.inside.head c.as_slice-2.result.now _ _ (rw c.self.view_is at c.self.invariant.1) (grind (arith, lent))
    (omega (arith, size, c.count_before-passed.ensures.bound)) (omega arith) (rw (c.as_slice.ensures.value, c.self.view_is) at c.count_before-passed.ensures.parts) c.count_before-offset.ensures.bound c.count_before-offset.ensures.parts
