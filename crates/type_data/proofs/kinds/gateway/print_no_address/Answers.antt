use Rattle.type_data.proofs.OfKinds.Gateway.Printed.{dot_front}
use Rattle.type_data.proofs.kinds.gateway.print_no_address.Goals as goal

pub returns-clause-printed : goal.returns-clause-printed
returns-clause-printed c = dot_front _ _ _ c.in_ok-push.ensures.items
