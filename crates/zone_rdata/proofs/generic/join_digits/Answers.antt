use Rattle.zone_rdata.proofs.Common.{Ok, refl, ap, arith, length-append, length, raw}
use Rattle.zone_rdata.proofs.Items.GenericLaws.{joined_more, joined_over, joined_bad, joined_all, half_length}
use Rattle.zone_rdata.proofs.generic.join_digits.Goals as goal

pub returns-then-text-len-clause-fault : goal.returns-then-text-len-clause-fault
returns-then-text-len-clause-fault c =
    rw c.of-then-text-len.ensures (refl, joined_over c.args.items.now c.loop-item.item-index _ _ c.in-Bare.text.now c.loop-item.octets.items c.args.len c.loop-item-test.true refl (ap raw c.in-Bare.is) c.loop-item.invariant.0 c.loop-item.invariant.1 (omega (arith, c.len.ensures, c.if-text-len.true)))

pub returns-then-not-branch-clause-fault : goal.returns-then-not-branch-clause-fault
returns-then-not-branch-clause-fault c =
    rw c.of-then-not-branch.ensures (
      refl,
      λ whole h e. joined_bad c.args.items.now c.loop-item.item-index _ _ c.in-Bare.text.now c.loop-item.octets.items c.loop-item-test.true refl (ap raw c.in-Bare.is) c.loop-item.invariant.0 (c.in_ok-push_octets_of_hex.ensures.no (ap Ok c.if-not-branch.true)) whole h,
    )

pub loop-item-preserved : goal.loop-item-preserved
loop-item-preserved c =
    let grows = c.in_ok-push_octets_of_hex.ensures.yes (ap Ok c.if-not-branch.false) in (
      joined_more c.args.items.now c.loop-item.item-index _ _ c.in-Bare.text.now c.loop-item.octets.items _ c.loop-item-test.true refl (ap raw c.in-Bare.is) c.loop-item.invariant.0 grows,
      let count = half_length c.in-Bare.text.now grows.value grows.stated in
          omega (arith, c.len.ensures, c.if-text-len.false, ap length grows.written, length-append c.loop-item.octets.items grows.value, count, c.loop-item.invariant.1),
    )

pub returns-clause-found : goal.returns-clause-found
returns-clause-found c = joined_all c.args.items.now c.loop-item.item-index _ c.loop-item-test.false c.loop-item.invariant.0
