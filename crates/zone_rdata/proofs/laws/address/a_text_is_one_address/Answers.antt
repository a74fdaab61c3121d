use Rattle.zone_rdata.proofs.Addresses.Cut.{numbers_unique}
use Rattle.zone_rdata.proofs.Addresses.AddressGaps.{groups_unique}
use Rattle.zone_rdata.proofs.laws.address.a_text_is_one_address.Goals as goal

pub returns-clause-ipv4 : goal.returns-clause-ipv4
returns-clause-ipv4 c = numbers_unique 3

pub returns-clause-ipv6 : goal.returns-clause-ipv6
returns-clause-ipv6 c = groups_unique
