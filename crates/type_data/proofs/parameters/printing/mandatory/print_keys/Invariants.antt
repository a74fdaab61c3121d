use Rattle.type_data.proofs.Common.{length}
use Rattle.type_data.proofs.OfParameters.PrintedKeys.{HasPrinted}
use Rattle.type_data.proofs.parameters.printing.mandatory.print_keys.Given as goal

abbrev pub invariant-loop-key : goal.invariant-loop-key
invariant-loop-key l = HasPrinted l.keys l.rest l.mark l.fn.out.items l.out.items

abbrev pub decreases-loop-key : goal.decreases-loop-key
decreases-loop-key l = length l.rest
