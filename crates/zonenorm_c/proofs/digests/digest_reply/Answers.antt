-- the reply on the zone, and on an input that denotes none
use Rattle.std.proofs.Common.{refl}
use Rattle.zonenorm_c.specs.Answering.{accepted, halted}
use Rattle.zonenorm_c.specs.declared.given.Unread.TheVariants.{Memory}
use Rattle.zonenorm_c.specs.declared.zone.Halt.TheVariants.{Unread}
use Rattle.zonenorm_c.proofs.digests.digest_reply.Goals as goal

pub returns-in-Err : goal.returns-in-Err
returns-in-Err c = halted c.in-Err.halt c.in-Err.ensures.halt c.halt_reply.ensures

pub returns-in-Ok-wanted_reply : goal.returns-in-Ok-wanted_reply
returns-in-Ok-wanted_reply c = accepted c.in-Ok.zone c.in-Ok.ensures.zone c.in-Ok-wanted_reply.ensures

pub returns : goal.returns
returns c =
    halted (Unread Memory) tt (rw (c.without_text.ensures.answer, c.plain.ensures) refl, c.without_text.ensures.text)
