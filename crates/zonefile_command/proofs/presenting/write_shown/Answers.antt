use Rattle.std.proofs.Common.{ℕ, List, subst, sym}
use Rattle.words_print.specs.Shown.{IsShownText}
use Rattle.zonefile_command.proofs.Shown.{unwritten}
use Rattle.zonefile_command.proofs.presenting.write_shown.Goals as goal

pub returns-in-Ok-clause-stopped : goal.returns-in-Ok-clause-stopped
returns-in-Ok-clause-stopped g c =
    unwritten c.args.text.now c.as_slice.result.now _ _ _
    (subst (λ (t : List ℕ). IsShownText c.args.text.now t) (sym c.as_slice.ensures.value) c.in-Ok.ensures)
    c.in-Err-write_octets.ensures.part c.in-Err-write_octets.ensures.failed
