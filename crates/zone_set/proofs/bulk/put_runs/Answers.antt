use Rattle.zone_set.proofs.Common.{AreNeighbours, IsEntry, IsPermutation-put_mid, IsPermutation-refl, IsPermutation-trans, all_records, arith, common_steps, length, length-drop, length-take-le, length_permutation, refl, subst, sym, take_at, with_hint, ◌+◌, ◌∙◌, ◌≡◌, ◌≤◌}
use Rattle.zone_set.proofs.Lists.Looking.{each_take, run_alike, take_front, take_whole, within_front}
use Rattle.zone_set.proofs.Lists.Repeats.{each_moved}
use Rattle.zone_set.proofs.bulk.put_runs.Goals as goal

pub loop-hint-init : goal.loop-hint-init
loop-hint-init g c = (
  omega arith,
  refl,
  IsPermutation-refl _,
  each_moved g.base c.args.class c.args.octets.now _ _ c.requires c.sort_by_hint.ensures,
  tt,
)

pub returns-then-not-ask_neighbours-clause-moved : goal.returns-then-not-ask_neighbours-clause-moved
returns-then-not-ask_neighbours-clause-moved g c = IsPermutation-trans _ _ _ c.sort_by_hint.ensures c.loop-hint.invariant.2

pub put_run-requires : goal.put_run-requires
put_run-requires g c =
    let start = c.loop-hint.start in
    let len = c.in-Some.len in
    let within = c.in-Some.ensures.within in (
      each_take (IsEntry g.base c.args.class c.args.octets.now) _ _ c.loop-hint.invariant.3,
      (
        within_front start len _ c.loop-hint.entries (omega arith) (grind (arith, common_steps, length-drop, within)),
        run_alike (with_hint c.in-Some.hint) start len c.loop-hint.entries c.in-Some.ensures.same,
      ),
    )

pub returns-then-not-put_run-clause-moved : goal.returns-then-not-put_run-clause-moved
returns-then-not-put_run-clause-moved g c =
    let moves = IsPermutation-put_mid 0 (c.loop-hint.start + c.in-Some.len) _ c.put_run.new.entries c.put_run.ensures.moved in
    IsPermutation-trans _ _ _ c.sort_by_hint.ensures (IsPermutation-trans _ _ _ c.loop-hint.invariant.2 moves)

pub loop-hint-preserved : goal.loop-hint-preserved
loop-hint-preserved g c =
    let start = c.loop-hint.start in
    let len = c.in-Some.len in
    let new = c.put_run.new.entries in
    let moves = IsPermutation-put_mid 0 (start + len) _ new c.put_run.ensures.moved in
    let same = length_permutation _ _ moves in
    let within = c.in-Some.ensures.within in
    let low : start + len ≤ length c.loop-hint.entries = grind (arith, common_steps, length-drop, within) in
    let whole : length new ≡ start + len = length_permutation _ _ c.put_run.ensures.moved ∙ length-take-le (start + len) _ low in (
      rw same low,
      same ∙ c.loop-hint.invariant.1,
      IsPermutation-trans _ _ _ c.loop-hint.invariant.2 moves,
      each_moved g.base c.args.class c.args.octets.now _ _ c.loop-hint.invariant.3 moves,
      subst (λ es. AreNeighbours (all_records c.args.class c.args.octets.now es)) (sym (take_at new _ (start + len) whole))
          (c.put_run.ensures.next c.if-not-put_run.false (subst (λ es. AreNeighbours (all_records c.args.class c.args.octets.now es))
          (sym (take_front start (start + len) c.loop-hint.entries (omega arith)))
          c.loop-hint.invariant.4)),
    )

pub returns-clause-moved : goal.returns-clause-moved
returns-clause-moved g c = IsPermutation-trans _ _ _ c.sort_by_hint.ensures c.loop-hint.invariant.2

pub returns-clause-next : goal.returns-clause-next
returns-clause-next g c = λ is.
    subst (λ es. AreNeighbours (all_records c.args.class c.args.octets.now es)) (take_whole c.loop-hint.start c.loop-hint.entries c.in_default.ensures.none) c.loop-hint.invariant.4
