use Rattle.zone_rdata.proofs.Common.{sym, subst, if_none_any}
use Rattle.zone_rdata.proofs.Addresses.AddressParts.{HaveReadParts, parts_more, parts_stop, parts_unended}
use Rattle.zone_rdata.proofs.address.groups.octets_of_parts.Goals as goal

pub returns-in_err-push_group-clause-none : goal.returns-in_err-push_group-clause-none
returns-in_err-push_group-clause-none c = if_none_any _ _ (parts_stop c.args.ends c.args.text.now _ _ _ _ c.in-Some.ensures.some c.loop-group.invariant c.in_err-push_group.ensures.none)

pub loop-group-preserved : goal.loop-group-preserved
loop-group-preserved c =
    let added = c.in_ok-push_group.ensures.some in
    subst (HaveReadParts c.args.ends c.args.text.now c.in-Some.after.now) (sym added.1.1) (parts_more c.args.ends c.args.text.now _ _ _ _ added.0 c.in-Some.ensures.some added.1.0 c.loop-group.invariant)

pub returns-in_err-push_last-clause-none : goal.returns-in_err-push_last-clause-none
returns-in_err-push_last-clause-none c = if_none_any _ _ (parts_unended c.args.ends c.args.text.now _ _ c.in_default.ensures.none c.loop-group.invariant c.in_err-push_last.ensures.none)
