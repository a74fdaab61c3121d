use Rattle.zone_wire.proofs.Common.{arith, refl}
use Rattle.zone_wire.proofs.Messages.MessageFaults.{message_judged}
use Rattle.zone_wire.proofs.Messages.Sections.{parses}
use Rattle.zone_wire.proofs.structure.answers_start.Goals as goal

pub returns : goal.returns
returns c =
    let q = rw c.u16_at.ensures at c.in_ok-answers.ensures in
    let a = rw c.u16_at-2.ensures at c.in_ok-additional.ensures in
    let h = rw c.u16_at-3.ensures at c.in_ok-end.ensures in
    parses c.args.octets.now c.in_default.ensures c.in_ok-answers.answers q c.in_ok-additional.additional a c.in_ok-end.end h c.if-end-octets.false _ refl
    ((message_judged c.args.octets.now).tells (λ i. omega (arith, c.type_inv.octets i)))
