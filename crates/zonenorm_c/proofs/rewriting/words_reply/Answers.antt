use Rattle.std.proofs.Common.{refl}
use Rattle.zonenorm_c.specs.Rewriting.{shown}
use Rattle.zonenorm_c.proofs.rewriting.words_reply.Goals as goal

pub returns-in-Ok : goal.returns-in-Ok
returns-in-Ok c = shown c.in-Ok.ensures (rw c.plain.ensures refl)
