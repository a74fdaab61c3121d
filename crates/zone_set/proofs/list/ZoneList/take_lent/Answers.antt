use Rattle.zone_set.proofs.Common.{option_map, refl, sym, ap, ◌∙◌, append-nil, err_from_is_err_and, placed_of}
use Rattle.zone_set.proofs.Lists.Taking.{lent_first, listed_push, HasTaken-start, HasTaken-more, ListsAll-at_end, StopsListing-at_end, StopsListing-class, StopsListing-memory}
use Rattle.zone_set.proofs.Lists.Thinning.{Tells-itself}
use Rattle.zone_set.proofs.Common.{subst}
use Rattle.zone_set.specs.ZoneList.{Tells}
use Rattle.zone_set.proofs.list.ZoneList.take_lent.Goals as goal

pub loop-placed-init : goal.loop-placed-init
loop-placed-init g c = (HasTaken-start _ _ (subst (λ ps. Tells ps c.args.self.now) (sym (append-nil _)) (Tells-itself _)), refl, c.known.ensures)

pub loop-placed-preserved : goal.loop-placed-preserved
loop-placed-preserved g c = (
  HasTaken-more _ _ _ c.loop-placed.invariant.0 _ (placed_of c.in-Some.placed) _ (lent_first _ _ (ap (option_map placed_of) (sym c.in-Some.is) ∙ c.first.ensures)) c.skip.ensures.left
      (λ taken is. listed_push _ _ _ taken (placed_of c.in-Some.placed) is (c.in_ok-listed.ensures.taken c.if-not-branch.false)),
  c.skip.ensures.beside ∙ c.loop-placed.invariant.1,
  c.take-listed.ensures.bounded,
)

pub returns-in_err-listed-clause-stopped : goal.returns-in_err-listed-clause-stopped
returns-in_err-listed-clause-stopped g c =
    let told = err_from_is_err_and c.from_residual.result c.from_residual.ensures.1 in
    rw (told.1, told.2) (StopsListing-memory _ _ _ _ c.loop-placed.invariant.0 (placed_of c.in-Some.placed) _ _ (lent_first _ _ (ap (option_map placed_of) (sym c.in-Some.is) ∙ c.first.ensures)) c.skip.ensures.left c.in_err-listed.ensures.kept)

pub returns-then-not-branch-clause-stopped : goal.returns-then-not-branch-clause-stopped
returns-then-not-branch-clause-stopped g c =
    let refused = c.in_ok-listed.ensures.refused c.if-not-branch.true in
    StopsListing-class _ _ _ _ c.loop-placed.invariant.0 (placed_of c.in-Some.placed) _ _ (lent_first _ _ (ap (option_map placed_of) (sym c.in-Some.is) ∙ c.first.ensures)) c.skip.ensures.left refused.1 refused.0

pub returns-in_err-next-clause-stopped : goal.returns-in_err-next-clause-stopped
returns-in_err-next-clause-stopped g c =
    let told = err_from_is_err_and c.from_residual-in_err-next.result c.from_residual-in_err-next.ensures.1 in
    rw (told.1, told.2) (StopsListing-at_end _ _ _ _ c.loop-placed.invariant.0 _ _ (sym c.next.ensures.answer ∙ c.in_err-next.was) c.next.ensures.left)

pub returns-clause-taken : goal.returns-clause-taken
returns-clause-taken g c = ListsAll-at_end _ _ _ _ c.loop-placed.invariant.0 _ _ (ap (option_map placed_of) (sym c.in_default.is) ∙ c.first.ensures) (sym c.next.ensures.answer ∙ c.in_ok-next.was) c.next.ensures.left
