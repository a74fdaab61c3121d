use Rattle.std.proofs.Common.{length}
use Rattle.type_data.proofs.PrintedEach.{HavePrintedEach}
use Rattle.type_data.proofs.field.BareKind.print_each.Given as goal

abbrev pub invariant-loop-rest : goal.invariant-loop-rest
invariant-loop-rest l = HavePrintedEach l.fn.self l.octets l.rest l.fn.out.items l.out.items

abbrev pub decreases-loop-rest : goal.decreases-loop-rest
decreases-loop-rest l = length l.rest
