use Rattle.zone_rdata.specs.Fields.Address.{of_ipv6}
use Rattle.faulty_items.proofs.SpeltValues.{of_four, of_sixteen}
use Rattle.faulty_items.proofs.spelling.is_address.Goals as goal

pub returns-in-4-clause-no : goal.returns-in-4-clause-no
returns-in-4-clause-no c = λ no. of_four c.args.count c.args.text.now c.in-4.is (c.is_ipv4.ensures.no no)

pub returns-in-16-clause-yes : goal.returns-in-16-clause-yes
returns-in-16-clause-yes c = λ yes. let found = c.is_ipv6.ensures.yes yes in (found.0, of_ipv6 c.in-16.is found.1)

pub returns-in-16-clause-no : goal.returns-in-16-clause-no
returns-in-16-clause-no c = λ no. of_sixteen c.args.count c.args.text.now c.in-16.is (c.is_ipv6.ensures.no no)
