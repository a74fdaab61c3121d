use Rattle.type_data.proofs.Common.{arith, nat_tests}
use Rattle.type_data.proofs.OfParameters.PrintedKeys.{keys_printed}
use Rattle.type_data.specs.Parameters.Machine.Printed.{all_sent}
use Rattle.type_data.proofs.parameters.printing.mandatory.print_mandatory.Goals as goal

pub returns-clause-printed : goal.returns-clause-printed
returns-clause-printed c = keys_printed (all_sent c.args.parameters.now) c.args.value.now c.args.out.now.items c.print_keys.new.out.items (grind (arith, nat_tests, c.is_empty.ensures, c.if-is_empty.false)) (c.are_there.ensures.there c.if-not-are_there.false) c.in_ok-print_keys.ensures
