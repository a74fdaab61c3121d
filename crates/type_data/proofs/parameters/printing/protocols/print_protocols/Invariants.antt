use Rattle.type_data.proofs.Common.{length}
use Rattle.type_data.proofs.OfParameters.PrintedProtocols.{HasPrinted}
use Rattle.type_data.proofs.parameters.printing.protocols.print_protocols.Given as goal

abbrev pub invariant-loop-mark : goal.invariant-loop-mark
invariant-loop-mark l = HasPrinted l.value l.rest l.mark l.fn.out.items l.out.items

abbrev pub decreases-loop-mark : goal.decreases-loop-mark
decreases-loop-mark l = length l.rest
