use Rattle.zonenorm_c.proofs.rewriting.zonenorm_words.Goals as goal

pub returns : goal.returns
returns c = rw (c.hand_out.ensures.text, c.hand_out.ensures.answer) c.words_reply-reply.ensures
