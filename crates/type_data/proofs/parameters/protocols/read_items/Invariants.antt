use Rattle.type_data.proofs.Common.{length}
use Rattle.type_data.proofs.OfParameters.Protocols.{HasItems}
use Rattle.type_data.proofs.parameters.protocols.read_items.Given as goal

abbrev pub invariant-loop-item : goal.invariant-loop-item
invariant-loop-item l = HasItems l.text l.rest l.fn.out.items l.out.items

abbrev pub decreases-loop-item : goal.decreases-loop-item
decreases-loop-item l = length l.rest
