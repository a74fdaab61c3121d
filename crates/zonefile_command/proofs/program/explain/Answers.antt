use Rattle.std.proofs.Common.{◌∙◌, refl, sym}
use Rattle.std.specs.Prelude.{string_bytes}
use Rattle.zonefile_command.proofs.Running.{can_not_read, counts, refuses}
use Rattle.zonefile_command.proofs.program.explain.Goals as goal

pub returns-in-Ok : goal.returns-in-Ok
returns-in-Ok g c =
    counts _ _ _ _ _ _ c.args.source.now _ _ (string_bytes c.args.source.now.file) refl c.in-Ok.zone c.len.result _ c.in-Ok.ensures.zone c.len.ensures c.tell_count.ensures

pub returns-then-status_of-eq-REFUSED : goal.returns-then-status_of-eq-REFUSED
returns-then-status_of-eq-REFUSED g c =
    refuses _ _ _ _ _ _ c.args.source.now _ _ c.as_str.result.now c.as_str.ensures.value c.in-Err.stop _ c.in-Err.ensures.none (sym c.status_of.ensures ∙ c.if-status_of-eq-REFUSED.true) c.tell_refused.ensures

pub returns : goal.returns
returns g c =
    can_not_read _ _ (g.W.OctetWriter.state c.args.output.now) (g.W.OctetWriter.state c.args.output.now) (g.E.OctetWriter.state c.args.errors.now) _ c.args.source.now _ _ c.as_str-else-status_of-eq-REFUSED.result.now c.as_str-else-status_of-eq-REFUSED.ensures.value c.in-Err.stop _ c.in-Err.ensures.none (λ is. c.if-status_of-eq-REFUSED.false (c.status_of.ensures ∙ is)) c.tell_stop.ensures
