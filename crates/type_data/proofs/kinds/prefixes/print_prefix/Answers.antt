use Rattle.type_data.proofs.OfKinds.Prefixes.Printed.{prefix_front}
use Rattle.type_data.proofs.kinds.prefixes.print_prefix.Goals as goal

pub returns-clause-printed : goal.returns-clause-printed
returns-clause-printed c = prefix_front c.args.octets.now c.in_ok-prefix.rest.now c.args.out.now.items c.push_prefix.new.out.items c.in_ok-prefix.prefix c.in_ok-prefix.ensures.front c.in_ok-push_prefix.ensures
