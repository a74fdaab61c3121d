use Rattle.zone_set.proofs.Common.{AreNeighbours, Entry, IsPermutation-refl, IsPermutation-trans, ap, arith, drop, entry_record, length, map, subst, suc, sym, take, ◌++◌, ◌-◌, ◌<◌, ◌∙◌}
use Rattle.zone_set.proofs.Lists.Looking.{AreNeighbours-between, AreNeighbours-changed, last_stands, others_at_end, others_stay}
use Rattle.zone_set.proofs.Lists.Repeats.{each_moved}
use Rattle.zone_set.proofs.bulk.put_last.Goals as goal

pub loop-at-init : goal.loop-at-init
loop-at-init g c =
    let is = c.saturating_sub-at.ensures in (
      omega (arith, is),
      IsPermutation-refl _,
      c.requires,
      others_at_end c.saturating_sub-at.result c.args.entries.now is,
      λ others. last_stands (entry_record c.args.class c.args.octets.now) c.saturating_sub-at.result c.args.entries.now is,
    )

pub returns-in-Some-Less-clause-next : goal.returns-in-Some-Less-clause-next
returns-in-Some-Less-clause-next g c = λ is others.
    let es = c.loop-at.entries in
    let at = c.loop-at.at in
    let above : 0 < at = grind (arith, c.loop-at-test.true) in
    let low = c.loop-at.invariant.0 in
    let here : at < length es = omega (arith, above, low) in
    let f = entry_record c.args.class c.args.octets.now in
    AreNeighbours-between f at es _ above here
    (subst (λ l. AreNeighbours (map f l)) (sym c.loop-at.invariant.3) others) (c.loop-at.invariant.4 others) (c.in-Some-Less.ensures.before c.in-Some-Less.field-0-is)

pub loop-at-preserved : goal.loop-at-preserved
loop-at-preserved g c =
    let es = c.loop-at.entries in
    let at = c.loop-at.at in
    let above : 0 < at = grind (arith, c.loop-at-test.true) in
    let low = c.loop-at.invariant.0 in
    let here : at < length es = omega (arith, above, low) in
    let f = entry_record c.args.class c.args.octets.now in
    let len = c.swap.ensures.len in
    let next = c.in-Some-Greater.ensures.after c.in-Some-Greater.field-0-is in
    let d : Entry = record { hint = 0; at = 0 } in
    let both = c.swap.ensures.by_index.3 in (
      omega (arith, len, low),
      IsPermutation-trans _ _ _ c.loop-at.invariant.1 c.swap.ensures.permutation,
      each_moved g.base c.args.class c.args.octets.now _ _ c.loop-at.invariant.2 c.swap.ensures.permutation,
      ap (λ l. take (at - 1) l ++ drop (suc (at - 1)) l) (both d) ∙ others_stay at es d above here ∙ c.loop-at.invariant.3,
      λ others. subst (λ l. AreNeighbours (map f (drop (at - 1) l))) (sym (both _)) (AreNeighbours-changed f at es _ above here
          (subst (λ l. AreNeighbours (map f l)) (sym c.loop-at.invariant.3) others) next),
    )
