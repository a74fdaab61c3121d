use Rattle.std.proofs.Common.{length}
use Rattle.type_data.proofs.OfKinds.Strings.Printed.{HavePrinted}
use Rattle.type_data.proofs.kinds.strings.print_strings.Given as goal

abbrev pub invariant-loop-rest : goal.invariant-loop-rest
invariant-loop-rest l = HavePrinted l.octets l.rest l.fn.out.items l.out.items

abbrev pub decreases-loop-rest : goal.decreases-loop-rest
decreases-loop-rest l = length l.rest
