use Rattle.type_data.proofs.Common.{arith}
use Rattle.type_data.proofs.OfKinds.Bitmap.Bits.{one_window}
use Rattle.type_data.proofs.kinds.bitmap.push_window.Goals as goal

pub returns : goal.returns
returns c = one_window c.args.number c.args.bits.now c.args.out.now.items _ c.trimmed_len-len.result (omega arith) (λ k. omega (arith, c.type_inv.bits k)) c.requires c.trimmed_len-len.ensures.few (omega (arith, c.if-len-eq0.false)) (c.trimmed_len-len.ensures.last (omega (arith, c.if-len-eq0.false))) c.trimmed_len-len.ensures.after (cc (c.in_ok-extend_from_slice.ensures.items, c.in_ok-extend_from_slice-2.ensures.items))
