use Rattle.zone_rdata.proofs.Common.{◌+◌, take_rest, if_none_any, if_none_weaker, if_some_weaker}
use Rattle.zone_rdata.proofs.Addresses.AddressGaps.{refused_without_gap, refused_at_gap, found_at_gap}
use Rattle.zone_rdata.proofs.address.ipv6.ipv6_octets_of.Goals as goal

pub returns-in_err-at-clause-none : goal.returns-in_err-at-clause-none
returns-in_err-at-clause-none c = if_none_any _ _ (refused_without_gap c.args.text.now c.in_err-at.ensures.none c.in_default.ensures.none)

pub returns-clause-found : goal.returns-clause-found
returns-clause-found c = if_some_weaker c.octets_around.result _ _ (found_at_gap c.args.text.now _ c.in_ok-at.at (take_rest c.args.text.now (c.in_ok-at.at + 2)) c.in_ok-at.ensures.inside c.in_ok-at.ensures.found.0) c.octets_around.ensures.found

pub returns-clause-none : goal.returns-clause-none
returns-clause-none c = if_none_weaker _ _ _ (refused_at_gap c.args.text.now _ c.in_ok-at.at (take_rest c.args.text.now (c.in_ok-at.at + 2)) (record { here = c.in_ok-at.ensures.found.0; none = c.in_ok-at.ensures.found.1 })) c.octets_around.ensures.none
