use Rattle.std.proofs.Common.{length}
use Rattle.type_data.proofs.OfKinds.Name.Printed.{HaveLabels}
use Rattle.type_data.proofs.kinds.name.print_labels.Given as goal

abbrev pub invariant-loop-label : goal.invariant-loop-label
invariant-loop-label l = HaveLabels l.octets l.rest l.fn.out.items l.out.items

abbrev pub decreases-loop-label : goal.decreases-loop-label
decreases-loop-label l = length l.rest
