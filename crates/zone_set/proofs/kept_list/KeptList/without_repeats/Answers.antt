use Rattle.zone_set.proofs.Common.{[], AllByRecursion, AllByRecursion-append, all_records, record_of, subst, sym, inl, inr, ⊎_elim, ◌≡◌}
use Rattle.zone_set.proofs.Lists.ListPush.{each_placed}
use Rattle.zone_set.proofs.Lists.Thinning.{HasThinned-again, HasThinned-first, Tells-at_end, Tells-itself, next_has}
use Rattle.zone_set.proofs.kept_list.KeptList.without_repeats.Goals as goal
use Rattle.zone_set.proofs.kept_list.KeptList.without_repeats.Goals.{In-Some}

-- the next record is of the class of all
next_class : (c : In-Some) → c.in-Some.rr.class ≡ c.loop-rr.invariant.one_class.0
next_class c =
    let (k, each, _) = c.loop-rr.invariant.one_class in
    next_has _ _ (record_of c.in-Some.rr) c.in-Some.place _ _ (rw (c.in-Some.ensures.steps.0, c.in-Some.ensures.steps.1) at c.loop-rr.invariant.thinned) (λ r. r.class ≡ k) each

pub loop-rr-init : goal.loop-rr-init
loop-rr-init c =
    let l = c.self.inside in
    let kept = c.new-2.ensures (all_records l.class l.octets.items l.entries.items) (rw c.as_slice-octets.ensures.value c.self.invariant.kept) in
    record {
      can_next = (tt, tt);
      is_finite = tt;
      thinned = record { taken = []; parts = cc; tells = rw c.new-list.ensures (Tells-itself []) };
      one_class = rw c.new-list.ensures (l.class, rw (← c.self.view_is) (each_placed (λ r. r.class ≡ l.class) (all_records l.class l.octets.items l.entries.items) l.places c.self.invariant.kept.classes), tt);
    }

pub loop-rr-preserved-then-has : goal.loop-rr-preserved-then-has
loop-rr-preserved-then-has c = record {
  can_next = (tt, tt);
  is_finite = tt;
  thinned = HasThinned-again _ _ (record_of c.in-Some.rr) c.in-Some.place _ _ (rw (c.in-Some.ensures.steps.0, c.in-Some.ensures.steps.1) at c.loop-rr.invariant.thinned) (c.has.ensures c.if-has.true);
  one_class = c.loop-rr.invariant.one_class;
}

pub push-requires-clause-class : goal.push-requires-clause-class
push-requires-clause-class c =
    let p = (goal.at.push-requires-clause-class c).In-Some in
    subst (λ k. AllByRecursion (λ q. q.rr.class ≡ k) c.loop-rr.list) (sym (next_class p)) c.loop-rr.invariant.one_class.2

pub loop-rr-preserved : goal.loop-rr-preserved
loop-rr-preserved c =
    let p = (goal.at.loop-rr-preserved c).In-Some in
    let (k, each, kept) = c.loop-rr.invariant.one_class in
    record {
      can_next = (tt, tt);
      is_finite = tt;
      thinned = rw c.in_ok-push.ensures.taken (HasThinned-first _ _ (record_of c.in-Some.rr) c.in-Some.place _ _ (rw (c.in-Some.ensures.steps.0, c.in-Some.ensures.steps.1) at c.loop-rr.invariant.thinned));
      one_class = rw c.in_ok-push.ensures.taken (k, each, AllByRecursion-append (λ q. q.rr.class ≡ k) c.loop-rr.list _ kept (next_class p, tt));
    }

pub returns : goal.returns
returns c = Tells-at_end _ _ _ _ c.loop-rr.invariant.thinned (⊎_elim (λ none. inl none.1.0) (λ none. inr none.1.0) c.in-None.ensures.steps)
