use Rattle.faulty_items.proofs.Common.{Ok, ap, arith, inl, inr, refl, ◌-◌, ◌+◌, ◌/◌}
use Rattle.faulty_items.proofs.CanGoOn.{all_go_on, all_stop, at_none, first_go, first_stop, stops_there}
use Rattle.faulty_items.proofs.going_on.stop_in.Goals as goal
use Rattle.faulty_items.proofs.going_on.stop_in.Goals.{then-is_empty-via-then-is_empty, then-is_empty-via-else-is_empty+in_ok-can_go_on+then-branch}

pub returns-then-is_empty : goal.returns-then-is_empty
returns-then-is_empty c = λ f one. elim c.then-is_empty.branch [
  | then-is_empty-via-then-is_empty w ↦ at_none c.args.origin.now f c.args.own.now (grind (arith, c.is_empty.ensures, w.if-is_empty.true))
  | then-is_empty-via-else-is_empty+in_ok-can_go_on+then-branch w ↦ all_go_on c.args.origin.now f c.args.own.now (w.in_ok-can_go_on.ensures.yes (ap Ok w.if-branch.true) f one)
]

pub loop-high-init : goal.loop-high-init
loop-high-init c = record {
  order = grind (arith, c.is_empty.ensures, c.if-is_empty.false);
  within = omega arith;
  before = λ f one. inl refl;
  after = λ f one. all_stop c.args.origin.now f c.args.own.now (c.in_ok-can_go_on.ensures.no (ap Ok c.if-branch.false) f one);
}

pub loop-high-preserved-then-branch-2 : goal.loop-high-preserved-then-branch-2
loop-high-preserved-then-branch-2 c = record {
  order = omega (arith, c.loop-high-test.true, c.loop-high.invariant.order);
  within = c.loop-high.invariant.within;
  before = λ f one. inr (first_go c.args.origin.now f c.args.own.now _ (c.loop-high.low + (c.loop-high.high - c.loop-high.low) / 2) refl (c.in_ok-can_go_on-2.ensures.yes (ap Ok c.if-branch-2.true) f one));
  after = c.loop-high.invariant.after;
}

pub loop-high-preserved : goal.loop-high-preserved
loop-high-preserved c = record {
  order = omega (arith, c.loop-high-test.true, c.loop-high.invariant.order);
  within = omega (arith, c.loop-high.invariant.within, c.loop-high.invariant.order);
  before = c.loop-high.invariant.before;
  after = λ f one. first_stop c.args.origin.now f c.args.own.now _ (c.loop-high.low + (c.loop-high.high - c.loop-high.low) / 2) refl (c.in_ok-can_go_on-2.ensures.no (ap Ok c.if-branch-2.false) f one);
}

pub returns : goal.returns
returns c = λ f one.
    stops_there c.args.origin.now f c.args.own.now c.loop-high.low c.loop-high.high _ _ c.loop-high.invariant.order (omega (arith, c.loop-high-test.false)) c.loop-high.invariant.within refl (c.loop-high.invariant.before f one) (c.loop-high.invariant.after f one)
