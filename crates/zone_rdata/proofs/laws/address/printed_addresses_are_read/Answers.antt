use Rattle.zone_rdata.proofs.Addresses.AddressLaws.{ipv4_printed, ipv6_printed}
use Rattle.zone_rdata.proofs.laws.address.printed_addresses_are_read.Goals as goal

pub returns-clause-ipv4 : goal.returns-clause-ipv4
returns-clause-ipv4 c = ipv4_printed

pub returns-clause-ipv6 : goal.returns-clause-ipv6
returns-clause-ipv6 c = ipv6_printed
