use Rattle.type_data.proofs.Common.{length}
use Rattle.type_data.proofs.OfKinds.Types.Printed.{HavePrinted}
use Rattle.type_data.proofs.kinds.types.print_perhaps_types.Given as goal

abbrev pub invariant-loop-rest : goal.invariant-loop-rest
invariant-loop-rest l = HavePrinted l.octets l.rest l.least l.fn.out.items l.out.items

abbrev pub decreases-loop-rest : goal.decreases-loop-rest
decreases-loop-rest l = length l.rest
