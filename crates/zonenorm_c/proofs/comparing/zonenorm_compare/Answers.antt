use Rattle.zonenorm_c.proofs.comparing.zonenorm_compare.Goals as goal

pub returns : goal.returns
returns c = rw (c.hand_out.ensures.text, c.hand_out.ensures.answer) c.reply_of-reply.ensures
