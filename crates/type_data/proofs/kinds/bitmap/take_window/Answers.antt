use Rattle.type_data.proofs.Common.{arith, ◌∙◌}
use Rattle.type_data.proofs.OfKinds.Types.Printed.{begins_with}
use Rattle.type_data.proofs.kinds.bitmap.take_window.Goals as goal

pub returns-in-Some-clause-window : goal.returns-in-Some-clause-window
returns-in-Some-clause-window c = begins_with c.args.octets.now c.in_ok-number.rest.now c.in_ok-bits.bits.now c.in_ok-bits.rest.now c.in_ok-number.number (λ k. omega (arith, c.type_inv.octets k)) c.in_ok-number.ensures.whole c.in_ok-bits.ensures.whole c.in-Some.ensures.item.3.0 (omega arith) (λ zero. c.if-last-ne0.true (c.in-Some.ensures.item.3.1 0 ∙ zero))
