use Rattle.zone_set.proofs.Common.{IsPermutation, IsPermutation-put_mid, IsPermutation-trans, arith, common_steps, length-drop, length_permutation, ◌+◌, ◌-◌, ◌∙◌}
use Rattle.zone_set.proofs.Hints.Keyed.{IsPermutation-keyed}
use Rattle.zone_set.proofs.keys.+keys.Goals as goal
use Rattle.zone_set.proofs.keys.+keys.Goals.{sort-then-is_most, sort-else-is_most}

pub sort_keyed-returns : goal.sort_keyed-returns
sort_keyed-returns t c = IsPermutation-keyed c.args.hint c.args.run.now c.set_keys.new.run c.sort.new.entries c.set_hint.new.run c.requires c.set_keys.ensures c.sort.ensures c.set_hint.ensures.places c.set_hint.ensures.hints

pub sort_by_one-returns : goal.sort_by_one-returns
sort_by_one-returns t c = IsPermutation-keyed c.args.hint c.args.run.now c.set_places.new.run c.sort_places.new.entries c.set_hint.new.run c.requires c.set_places.ensures c.sort_places.ensures c.set_hint.ensures.places c.set_hint.ensures.hints

pub sort_places-loop-place-preserved : goal.sort_places-loop-place-preserved
sort_places-loop-place-preserved t c =
    let moves = IsPermutation-put_mid c.loop-place.start (c.loop-place.start + c.in-Some.len - c.loop-place.start) c.loop-place.entries c.sort_keyed.new.run c.sort_keyed.ensures in
    let same = length_permutation _ _ moves in
    let within = c.in-Some.ensures.within in (
      rw same (grind (arith, common_steps, length-drop, within)),
      same ∙ c.loop-place.invariant.1,
      IsPermutation-trans _ _ _ c.loop-place.invariant.2 moves,
    )

pub sort_places-returns : goal.sort_places-returns
sort_places-returns t c = IsPermutation-trans _ _ _ c.sort_by_hint.ensures c.loop-place.invariant.2

pub sort-returns : goal.sort-returns
sort-returns t c = IsPermutation-trans _ _ _ c.sort_by_hint.ensures c.loop-hint.invariant.2

pub sort-loop-hint-preserved : goal.sort-loop-hint-preserved
sort-loop-hint-preserved t c =
    let moves : IsPermutation c.loop-hint.entries c.if-is_most.entries = elim c.if-is_most.branch [
      | sort-then-is_most w ↦ rw w.entries-is (IsPermutation-put_mid c.loop-hint.start (c.loop-hint.start + c.in-Some.len - c.loop-hint.start) c.loop-hint.entries w.sort_by_one.new.run w.sort_by_one.ensures)
      | sort-else-is_most w ↦ rw w.entries-is (IsPermutation-put_mid c.loop-hint.start (c.loop-hint.start + c.in-Some.len - c.loop-hint.start) c.loop-hint.entries w.sort_keyed.new.run w.sort_keyed.ensures)
    ] in
    let same = length_permutation _ _ moves in
    let within = c.in-Some.ensures.within in (
      grind (arith, common_steps, same, length-drop, within),
      same ∙ c.loop-hint.invariant.1,
      IsPermutation-trans _ _ _ c.loop-hint.invariant.2 moves,
    )
