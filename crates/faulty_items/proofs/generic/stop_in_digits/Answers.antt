use Rattle.faulty_items.proofs.Common.{Ok, ap, arith, raw, refl}
use Rattle.faulty_items.proofs.Digits.{all_joined, bad_stops, long_stops, one_joined, quoted_stops}
use Rattle.faulty_items.proofs.generic.stop_in_digits.Goals as goal

pub returns-in_default : goal.returns-in_default
returns-in_default c = quoted_stops c.args.digits.now c.args.most c.loop-item.item-index _ _ c.in_default.field-0.now c.loop-item.octets.items c.loop-item-test.true refl (ap raw c.in_default.is) c.loop-item.invariant

pub returns-then-text-most : goal.returns-then-text-most
returns-then-text-most c = long_stops c.args.digits.now c.args.most c.loop-item.item-index _ _ c.in-Bare.text.now c.loop-item.octets.items c.loop-item-test.true refl (ap raw c.in-Bare.is) (omega (arith, c.len.ensures, c.if-text-most.true)) c.loop-item.invariant

pub returns-then-not-branch : goal.returns-then-not-branch
returns-then-not-branch c = bad_stops c.args.digits.now c.args.most c.loop-item.item-index _ _ c.in-Bare.text.now c.loop-item.octets.items c.loop-item-test.true refl (ap raw c.in-Bare.is) (c.in_ok-push_octets_of_hex.ensures.no (ap Ok c.if-not-branch.true)) c.loop-item.invariant

pub loop-item-preserved : goal.loop-item-preserved
loop-item-preserved c = one_joined c.args.digits.now c.args.most c.loop-item.item-index _ _ c.in-Bare.text.now c.loop-item.octets.items _ c.loop-item-test.true refl (ap raw c.in-Bare.is) (omega (arith, c.len.ensures, c.if-text-most.false)) c.loop-item.invariant (c.in_ok-push_octets_of_hex.ensures.yes (ap Ok c.if-not-branch.false))

pub returns : goal.returns
returns c = all_joined c.args.digits.now c.args.most c.loop-item.item-index c.loop-item.octets.items c.loop-item-test.false c.loop-item.invariant
