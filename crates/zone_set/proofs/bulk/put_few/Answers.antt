use Rattle.zone_set.proofs.Common.{AreNeighbours, IsPermutation-put_mid, IsPermutation-trans, all_records, ap, arith, drop, length, length-take-le, length_permutation, subst, sym, take, take_at, ◌+◌, ◌-◌, ◌∙◌, ◌≡◌, ◌≤◌}
use Rattle.zone_set.proofs.Lists.Looking.{take_front}
use Rattle.zone_set.proofs.Lists.Repeats.{each_moved}
use Rattle.zone_set.proofs.bulk.put_few.Goals as goal

pub returns-then-not-put_last-clause-moved : goal.returns-then-not-put_last-clause-moved
returns-then-not-put_last-clause-moved g c = IsPermutation-trans _ _ _ c.loop-put.invariant.2 (IsPermutation-put_mid 0 (c.loop-put.put + 1) c.loop-put.entries c.put_last.new.entries c.put_last.ensures.moved)

pub loop-put-preserved : goal.loop-put-preserved
loop-put-preserved g c =
    let es = c.loop-put.entries in
    let put = c.loop-put.put in
    let new = c.put_last.new.entries in
    let moves = IsPermutation-put_mid 0 (put + 1) es new c.put_last.ensures.moved in
    let same = length_permutation _ _ moves in
    let within : put + 1 ≤ length es = grind (arith, c.loop-put-test.true) in
    let front : length (take (put + 1) es) ≡ put + 1 = length-take-le (put + 1) es within in
    let whole : length new ≡ put + 1 = length_permutation _ _ c.put_last.ensures.moved ∙ front in
    let before : take (length (take (put + 1) es) - 1) (take (put + 1) es) ≡ take put es = ap (λ n. take n (take (put + 1) es)) (omega (arith, front)) ∙ take_front put (put + 1) es (omega arith) in (
      rw same within,
      same ∙ c.loop-put.invariant.1,
      IsPermutation-trans _ _ _ c.loop-put.invariant.2 moves,
      each_moved g.base c.args.class c.args.octets.now _ _ c.loop-put.invariant.3 moves,
      λ stand. subst (λ l. AreNeighbours (all_records c.args.class c.args.octets.now l)) (sym (take_at new (drop (put + 1) es) (put + 1) whole))
          (c.put_last.ensures.next c.if-not-put_last.false (subst (λ l. AreNeighbours (all_records c.args.class c.args.octets.now l)) (sym before) (c.loop-put.invariant.4 stand))),
    )
