-- the reply on a file that is rewritten, and on one that isn't
use Rattle.std.proofs.Common.{arith, refl, subst}
use Rattle.zonenorm_c.specs.Rewriting.{IsRewritten, rewritten, unread}
use Rattle.zonenorm_c.proofs.rewriting.zonenorm_generic.Goals as goal

pub returns-in-Ok : goal.returns-in-Ok
returns-in-Ok c =
    let is = subst (λ new. IsRewritten c.args.given.now new.text.items new.refusals) c.in-Ok.field-0-is c.in-Ok.ensures.rewritten in
    rw (c.hand_out-in-Ok-2.ensures.text, c.hand_out-in-Ok.ensures.text, c.hand_out-in-Ok.ensures.answer) (rewritten c.in-Ok.field-0.refusals (omega (arith, c.if-given-ne-ALL_TYPES.false)) is c.refusals_reply.ensures)

pub returns-in-Err : goal.returns-in-Err
returns-in-Err c =
    rw (c.hand_out-in-Err.ensures.text, c.hand_out-in-Err.ensures.answer) (unread c.in-Err.why c.in-Err.ensures.unread refl c.unread_reply.ensures)
