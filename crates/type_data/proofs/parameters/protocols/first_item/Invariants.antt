use Rattle.type_data.proofs.Common.{length}
use Rattle.type_data.proofs.OfParameters.Protocols.{HasItem}
use Rattle.type_data.proofs.parameters.protocols.first_item.Given as goal

abbrev pub invariant-loop-octet : goal.invariant-loop-octet
invariant-loop-octet l = HasItem l.text l.rest l.item.items

abbrev pub decreases-loop-octet : goal.decreases-loop-octet
decreases-loop-octet l = length l.rest
