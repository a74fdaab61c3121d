use Rattle.zone_set.proofs.Common.{[], AllByRecursion, IsRecord, Placed, err_from_is_err_and, inl, inr, placed_at, record_of, ⊎_elim}
use Rattle.zone_set.proofs.Lists.ListPush.{each_placed}
use Rattle.zone_set.proofs.Lists.Offering.{HasOffered-more, StopsSettling-now, IsSettledAs-at_end}
use Rattle.zone_set.proofs.kept_list.offer.Goals as goal

pub loop-rr-init : goal.loop-rr-init
loop-rr-init g c =
    let kept = c.new.ensures g.records c.requires in
    record {
      can_next = (tt, tt);
      is_finite = tt;
      offered = record { taken = []; parts = cc; each = c.new-builder.ensures };
    }

pub loop-rr-preserved : goal.loop-rr-preserved
loop-rr-preserved g c = record {
  can_next = (tt, tt);
  is_finite = tt;
  offered = HasOffered-more _ _ (record_of c.in-Some.rr) c.in-Some.place _ _ (rw (c.in-Some.ensures.steps.0, c.in-Some.ensures.steps.1) at c.loop-rr.invariant.offered) _ c.in_ok-hold.ensures.accepted c.in_ok-hold.ensures.taken;
}

pub returns-in_err-hold-clause-refused : goal.returns-in_err-hold-clause-refused
returns-in_err-hold-clause-refused g c =
    let told = err_from_is_err_and c.from_residual.result c.from_residual.ensures.1 in
    let whole : AllByRecursion (λ (p : Placed). IsRecord p.rr) (placed_at g.records c.args.places.now) = each_placed IsRecord g.records c.args.places.now c.requires.whole in
    rw (told.1, told.2) (StopsSettling-now _ _ (record_of c.in-Some.rr) c.in-Some.place _ _ (rw (c.in-Some.ensures.steps.0, c.in-Some.ensures.steps.1) at c.loop-rr.invariant.offered) whole _ c.in_err-hold.ensures.refused)

pub returns-clause-taken : goal.returns-clause-taken
returns-clause-taken g c =
    IsSettledAs-at_end _ _ _ _ (each_placed IsRecord g.records c.args.places.now c.requires.whole) c.loop-rr.invariant.offered (⊎_elim (λ none. inl none.1.0) (λ none. inr none.1.0) c.in-None.ensures.steps)
