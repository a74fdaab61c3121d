use Rattle.zone_name.proofs.Common.{ap, ◌++◌, ◌∙◌}
use Rattle.zone_name.proofs.name.push_read.Goals as goal

pub returns-in_ok-extend_from_slice-in-Ok-clause-found :
    goal.returns-in_ok-extend_from_slice-in-Ok-clause-found
returns-in_ok-extend_from_slice-in-Ok-clause-found c =
    (c.in-Ok.name, c.in-Ok.ensures.found, c.in_ok-extend_from_slice-in-Ok.ensures.items ∙ ap (λ o. c.args.out.now.items ++ o) c.wire.ensures.octets)
