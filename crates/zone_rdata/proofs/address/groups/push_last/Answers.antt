use Rattle.zone_rdata.proofs.Common.{inl, inr, if_none_any, if_none_weaker}
use Rattle.zone_rdata.proofs.Addresses.AddressParts.{part_full, part_refused}
use Rattle.zone_rdata.proofs.address.groups.push_last.Goals as goal

pub returns-in-Some-clause-none : goal.returns-in-Some-clause-none
returns-in-Some-clause-none c = if_none_weaker _ _ _ (part_full c.args.ends c.args.text.now _ c.args.octets.now.items (inl c.in-Some.ensures.found)) c.push_octets.ensures.none

pub returns-in_err-numbers-clause-none : goal.returns-in_err-numbers-clause-none
returns-in_err-numbers-clause-none c = if_none_any _ _ (part_refused c.args.ends c.args.text.now c.args.octets.now.items c.in_default.ensures.none c.in_err-numbers.ensures.none)

pub returns-clause-none : goal.returns-clause-none
returns-clause-none c = if_none_weaker _ _ _ (part_full c.args.ends c.args.text.now _ c.args.octets.now.items (inr (c.if-not-ends.false, c.in_ok-numbers.ensures.found))) c.push_octets-2.ensures.none
