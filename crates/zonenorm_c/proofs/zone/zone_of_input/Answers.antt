-- the zone is that of what is read, and so is the refusal
use Rattle.std.proofs.Common.{subst}
use Rattle.zone_engine.specs.Form.{read_as_with}
use Rattle.zone_engine.specs.Refusal.{IfRefused, IsRefusal}
use Rattle.zonenorm_c.specs.Giving.{source_octets}
use Rattle.zonenorm_c.proofs.zone.zone_of_input.Goals as goal

pub returns-in-Ok-zone_in-clause-zone : goal.returns-in-Ok-zone_in-clause-zone
returns-in-Ok-zone_in-clause-zone c =
    (read_as_with c.in-Ok.input.origin (source_octets c.in-Ok.input.source), c.in-Ok.ensures.read, c.in-Ok-zone_in.ensures.zone)

pub returns-in-Err-Refused-clause-halt : goal.returns-in-Err-Refused-clause-halt
returns-in-Err-Refused-clause-halt c =
    let given = read_as_with c.in-Ok.input.origin (source_octets c.in-Ok.input.source) in
    let refused = subst (λ stop. IfRefused stop (IsRefusal given)) c.in-Err-Refused.field-0-is c.in-Err-Refused.ensures.fault in
    (given, c.in-Ok.ensures.read, refused)
