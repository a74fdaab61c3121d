use Rattle.zonenorm_c.proofs.Inputs.{of_input}
use Rattle.zonenorm_c.proofs.differing.unread_texts.Goals as goal

pub returns : goal.returns
returns c =
    (rw (c.alone.ensures.removed, c.alone.ensures.answer) (of_input c.args.why _ _ _ c.unread_reply-reply.ensures), rw c.alone.ensures.answer c.input_of-reply.ensures, c.alone.ensures.added)
