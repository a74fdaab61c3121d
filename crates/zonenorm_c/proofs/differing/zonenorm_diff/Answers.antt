use Rattle.zonenorm_c.proofs.differing.zonenorm_diff.Goals as goal

pub returns : goal.returns
returns c = rw (c.hand_out.ensures.text, c.hand_out-2.ensures.text, c.hand_out-2.ensures.answer) c.texts_by_flags-texts.ensures
