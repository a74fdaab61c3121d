use Rattle.std.specs.Iterator.Adapters.{zip_first, zip_second}
use Rattle.zone_set.proofs.Common.{all_records, ap, arith, inl, inr, length, record_of, ⊎_elim, ◌∷◌}
use Rattle.zone_set.proofs.Lists.Once.{HasOnce, HasOnce-again, HasOnce-begin, HasOnce-first, next_fits, one_class}
use Rattle.zone_set.proofs.Lists.Thinning.{Tells-at_end}
use Rattle.zone_set.proofs.kept_list.KeptList.each_once.Goals as goal
use Rattle.zone_set.proofs.kept_list.KeptList.each_once.Goals.{In-Some}

-- the next record is among those that are left
next : (c : In-Some) → HasOnce c.args.self.now c.loop-rr.list (record_of c.in-Some.rr ∷ zip_first c.next.new.self) (c.in-Some.place ∷ zip_second c.next.new.self) c.loop-rr.left.now c.loop-rr.seen
next c = rw (c.in-Some.ensures.steps.0, c.in-Some.ensures.steps.1) at c.loop-rr.invariant.once

pub loop-rr-init : goal.loop-rr-init
loop-rr-init c =
    let l = c.self.inside in
    let kept = c.new.ensures (all_records l.class l.octets.items l.entries.items) (rw c.as_slice-left.ensures.value c.self.invariant.kept) in
    record {
      can_next = (tt, tt);
      is_finite = tt;
      once = HasOnce-begin l.class l.base l.octets.items l.entries.items l.places c.self.invariant _ _ _ _ _ _ c.self.view_is c.new-list.ensures (cc) (cc) c.as_slice-left.ensures.value c.new-seen.ensures.empty;
    }

pub split_at-requires : goal.split_at-requires
split_at-requires c =
    let p = (goal.at.split_at-requires c).In-Some in
    omega (arith, next_fits _ _ _ _ _ _ _ _ (next p), ap length c.span.ensures)

pub loop-rr-preserved-then-not-is_new : goal.loop-rr-preserved-then-not-is_new
loop-rr-preserved-then-not-is_new c =
    let p = (goal.at.loop-rr-preserved-then-not-is_new c).In-Some in
    record {
      can_next = (tt, tt);
      is_finite = tt;
      once = HasOnce-again _ _ _ _ _ _ _ _ (next p) c.insert.new.self c.split_at.result.0 _ (ap length c.span.ensures) c.split_at.ensures.front _ c.split_at.ensures.back c.in-Ok.ensures.updates _ c.in-Ok.ensures.added c.if-not-is_new.true;
    }

pub push-requires-clause-class : goal.push-requires-clause-class
push-requires-clause-class c =
    let p = (goal.at.push-requires-clause-class c).In-Some in
    one_class _ _ _ _ _ _ _ _ (next p)

pub loop-rr-preserved : goal.loop-rr-preserved
loop-rr-preserved c =
    let p = (goal.at.loop-rr-preserved c).In-Some in
    record {
      can_next = (tt, tt);
      is_finite = tt;
      once = HasOnce-first _ _ _ _ _ _ _ _ (next p) c.insert.new.self c.split_at.result.0 _ (ap length c.span.ensures) c.split_at.ensures.front _ c.split_at.ensures.back c.in-Ok.ensures.updates _ c.in-Ok.ensures.added c.if-not-is_new.false _ c.in_ok-push.ensures.taken;
    }

pub returns-clause-told : goal.returns-clause-told
returns-clause-told c = Tells-at_end _ _ _ _ c.loop-rr.invariant.once.thinned (⊎_elim (λ none. inl none.1.0) (λ none. inr none.1.0) c.in-None.ensures.steps)

pub returns-clause-once : goal.returns-clause-once
returns-clause-once c = c.loop-rr.invariant.once.differ
