use Rattle.type_data.proofs.Common.{take}
use Rattle.type_data.proofs.OfParameters.EachPrinted.{HasPrinted}
use Rattle.type_data.specs.Parameters.Machine.Printed.{all_sent}
use Rattle.type_data.proofs.parameters.printing.print_each.Given as goal

abbrev pub invariant-loop-parameter : goal.invariant-loop-parameter
invariant-loop-parameter l = HasPrinted (all_sent l.parameters) (all_sent (take l.parameter-index l.parameters)) l.fn.out.items l.out.items
