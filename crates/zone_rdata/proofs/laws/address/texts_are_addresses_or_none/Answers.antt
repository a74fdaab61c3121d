use Rattle.zone_rdata.proofs.Addresses.AddressChoice.{ipv4_or_not, ipv6_or_not}
use Rattle.zone_rdata.proofs.laws.address.texts_are_addresses_or_none.Goals as goal

pub returns-clause-ipv4 : goal.returns-clause-ipv4
returns-clause-ipv4 c = ipv4_or_not

pub returns-clause-ipv6 : goal.returns-clause-ipv6
returns-clause-ipv6 c = ipv6_or_not
