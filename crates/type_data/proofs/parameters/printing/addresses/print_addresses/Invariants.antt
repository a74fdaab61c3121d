use Rattle.type_data.proofs.Common.{length}
use Rattle.type_data.proofs.OfParameters.PrintedAddresses.{HasPrinted}
use Rattle.type_data.specs.Parameters.Machine.Printed.{address_text, size_of}
use Rattle.type_data.proofs.parameters.printing.addresses.print_addresses.Given as goal

abbrev pub invariant-loop-mark : goal.invariant-loop-mark
invariant-loop-mark l = HasPrinted (size_of l.version) (address_text l.version) l.value l.rest l.mark l.fn.out.items l.out.items

abbrev pub decreases-loop-mark : goal.decreases-loop-mark
decreases-loop-mark l = length l.rest
