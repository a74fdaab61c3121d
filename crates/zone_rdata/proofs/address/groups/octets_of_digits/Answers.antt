use Rattle.zone_rdata.proofs.Common.{if_none_any}
use Rattle.zone_rdata.proofs.Addresses.Digits.{four_found, none_of_second}
use Rattle.zone_rdata.proofs.address.groups.octets_of_digits.Goals as goal

pub returns-in_err-low-clause-none : goal.returns-in_err-low-clause-none
returns-in_err-low-clause-none c = if_none_any _ _ (none_of_second c.args.first c.args.second c.args.third c.args.last _ (c.in_ok-high.ensures.found 0) c.in_err-low.ensures.none)

pub returns-clause-found : goal.returns-clause-found
returns-clause-found c = four_found c.args.first c.args.second c.args.third c.args.last _ _ (c.in_ok-high.ensures.found 0) (c.in_ok-low.ensures.found 2)
