use Rattle.type_data.proofs.Common.{arith}
use Rattle.type_data.proofs.OfKinds.Strings.Printed.{string_front}
use Rattle.type_data.proofs.kinds.strings.print_string.Goals as goal

pub returns-clause-printed : goal.returns-clause-printed
returns-clause-printed c = string_front c.args.octets.now c.in_ok-string.rest.now c.args.out.now.items c.print_quoted.new.out.items c.in_ok-string.string.now c.in_ok-string.ensures.whole (λ i. omega (arith, c.type_inv.octets i)) c.in_ok-print_quoted.ensures.ok
