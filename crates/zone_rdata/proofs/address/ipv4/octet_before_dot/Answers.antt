use Rattle.zone_rdata.proofs.Common.{if_none_any}
use Rattle.zone_rdata.proofs.Addresses.Cut.{numbers_none, number_refused}
use Rattle.zone_rdata.proofs.address.ipv4.octet_before_dot.Goals as goal

pub returns-in_err-number-clause-none : goal.returns-in_err-number-clause-none
returns-in_err-number-clause-none c = if_none_any _ _ (numbers_none c.args.text.now c.in_err-number.ensures.none)

pub returns-in_err-octet-clause-none : goal.returns-in_err-octet-clause-none
returns-in_err-octet-clause-none c = if_none_any _ _ (number_refused c.args.text.now _ _ c.in_ok-number.ensures.some c.in_err-octet.ensures.none)
