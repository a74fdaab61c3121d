use Rattle.faulty_items.proofs.Common.{Ok, ap, arith, inl, refl}
use Rattle.faulty_items.proofs.SpeltValues.{all_spelt, none_own, one_spelt, one_stops}
use Rattle.faulty_items.proofs.laid_out.judge.Goals as goal

pub returns-then-is_empty : goal.returns-then-is_empty
returns-then-is_empty c = none_own c.args.origin.now c.args.field c.args.own.now (grind (arith, c.is_empty.ensures, c.if-is_empty.true))

pub loop-item-init : goal.loop-item-init
loop-item-init c = inl refl

pub returns-then-not-branch : goal.returns-then-not-branch
returns-then-not-branch c = one_stops c.args.origin.now c.args.field c.args.own.now c.loop-item.item-index _ _ c.requires c.loop-item-test.true refl (c.in_ok-spells.ensures.no (ap Ok c.if-not-branch.true)) c.loop-item.invariant

pub loop-item-preserved : goal.loop-item-preserved
loop-item-preserved c = one_spelt c.args.origin.now c.args.field c.args.own.now c.loop-item.item-index _ _ c.requires c.loop-item-test.true refl (c.in_ok-spells.ensures.yes (ap Ok c.if-not-branch.false)) c.loop-item.invariant

pub returns : goal.returns
returns c = all_spelt c.args.origin.now c.args.field c.args.own.now c.loop-item.item-index (grind (arith, c.is_empty.ensures, c.if-is_empty.false)) c.loop-item-test.false c.loop-item.invariant
