use Rattle.type_data.proofs.Common.{refl}
use Rattle.type_data.proofs.kinds.address.read_address.Goals as goal

pub returns-in_default-ipv6_octets_of-clause-fault : goal.returns-in_default-ipv6_octets_of-clause-fault
returns-in_default-ipv6_octets_of-clause-fault c = rw (c.into-in_default-ipv6_octets_of.ensures, c.in-V6.is) (refl, c.in_default-ipv6_octets_of.ensures.none)

pub returns-in_ok-extend_from_slice-in-V6-clause-stated : goal.returns-in_ok-extend_from_slice-in-V6-clause-stated
returns-in_ok-extend_from_slice-in-V6-clause-stated c = rw c.in-V6.is (record { octets = c.in-Some-ipv6_octets_of.octets; stated = c.in-Some-ipv6_octets_of.ensures.found; written = c.in_ok-extend_from_slice-in-V6.ensures.items })
