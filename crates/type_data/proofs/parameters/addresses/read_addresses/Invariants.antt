use Rattle.type_data.proofs.Common.{IsAddressOf, length}
use Rattle.type_data.proofs.OfParameters.Lists.{HasAddresses}
use Rattle.type_data.proofs.parameters.addresses.read_addresses.Given as goal

abbrev pub invariant-loop-address : goal.invariant-loop-address
invariant-loop-address l = HasAddresses (IsAddressOf l.version) l.text l.rest l.fn.out.items l.out.items

abbrev pub decreases-loop-address : goal.decreases-loop-address
decreases-loop-address l = length l.rest
