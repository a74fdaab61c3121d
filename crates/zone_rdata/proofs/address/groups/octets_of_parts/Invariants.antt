use Rattle.zone_rdata.proofs.Common.{length}
use Rattle.zone_rdata.proofs.Addresses.AddressParts.{HaveReadParts}
use Rattle.zone_rdata.proofs.address.groups.octets_of_parts.Given as goal

abbrev pub invariant-loop-group : goal.invariant-loop-group
invariant-loop-group l = HaveReadParts l.ends l.text l.rest l.octets.items

abbrev pub decreases-loop-group : goal.decreases-loop-group
decreases-loop-group l = length l.rest
