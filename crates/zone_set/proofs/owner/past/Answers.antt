use Rattle.std.proofs.lemmas.List.{drop-drop}
use Rattle.zone_set.proofs.Common.{ap, drop, labels_of, sym, ◌∙◌}
use Rattle.zone_set.proofs.Ordering.Owners.{labels_of-first}
use Rattle.zone_set.proofs.owner.past.Goals.{in-Some, in_default}
use Rattle.zone_set.proofs.owner.past.Goals as goal

pub loop-preserved : goal.loop-preserved
loop-preserved c = elim c.match-next_label.branch [
  | in-Some w ↦ ap (λ l. labels_of l.now) w.left-is
      ∙ ap (drop 1) (sym (labels_of-first c.loop.left.now _ w.in-Some.rest.now w.in-Some.ensures.parts) ∙ c.loop.invariant) ∙ drop-drop 1 c.loop.counter (labels_of c.args.octets.now)
  | in_default w ↦ ap (λ l. labels_of l.now) w.left-is
      ∙ w.in_default.ensures.none ∙ ap (drop 1) (sym w.in_default.ensures.none ∙ c.loop.invariant) ∙ drop-drop 1 c.loop.counter (labels_of c.args.octets.now)
]
