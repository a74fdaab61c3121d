use Rattle.zone_rdata.proofs.Addresses.AddressOctets.{ipv4_count, ipv4_bytes, ipv6_count, ipv6_bytes}
use Rattle.zone_rdata.proofs.laws.address.addresses_have_their_octets.Goals as goal

pub returns-clause-ipv4 : goal.returns-clause-ipv4
returns-clause-ipv4 c = ipv4_count

pub returns-clause-ipv4_each : goal.returns-clause-ipv4_each
returns-clause-ipv4_each c = ipv4_bytes

pub returns-clause-ipv6 : goal.returns-clause-ipv6
returns-clause-ipv6 c = ipv6_count

pub returns-clause-ipv6_each : goal.returns-clause-ipv6_each
returns-clause-ipv6_each c = ipv6_bytes
