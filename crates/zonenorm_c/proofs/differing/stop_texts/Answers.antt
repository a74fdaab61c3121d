-- the line of the refusal, or that memory was refused
use Rattle.std.proofs.Common.{refl}
use Rattle.zonenorm_c.specs.Difference.{out_of_memory, refused}
use Rattle.zonenorm_c.proofs.differing.stop_texts.Goals as goal

pub returns-in_default : goal.returns-in_default
returns-in_default c = out_of_memory (rw (c.alone.ensures.answer, c.without_text.ensures.answer, c.plain.ensures) refl) (rw c.alone.ensures.removed c.without_text.ensures.text) c.alone.ensures.added

pub returns : goal.returns
returns c =
    refused c.in-Refused.fault c.in-Refused.place c.in-Refused.is
    (rw (c.alone-2.ensures.removed, c.alone-2.ensures.answer) c.refusal_reply-reply.ensures) (rw c.alone-2.ensures.answer c.input_of-reply.ensures) c.alone-2.ensures.added
