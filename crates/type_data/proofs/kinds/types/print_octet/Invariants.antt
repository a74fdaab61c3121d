use Rattle.type_data.proofs.Common.{◌+◌}
use Rattle.type_data.specs.Kinds.Types.Machine.{IsInOctet, PrintsBetween}
use Rattle.type_data.proofs.kinds.types.print_octet.Given as goal

abbrev pub invariant-loop-place : goal.invariant-loop-place
invariant-loop-place l = PrintsBetween (IsInOctet l.first l.octet) l.first (l.first + l.place) l.fn.out.items l.out.items
