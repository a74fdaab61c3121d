use Rattle.zone_rdata.proofs.Common.{Ok, ap}
use Rattle.zone_rdata.proofs.Items.ReadDigits.{none_read, more_read, part_unread, cut_parts, cut_whole}
use Rattle.zone_rdata.proofs.hexadecimal.push_parts.Goals as goal

pub loop-rest-init : goal.loop-rest-init
loop-rest-init c = none_read c.args.text.now c.args.out.now.items

pub returns-then-not-branch-clause-no : goal.returns-then-not-branch-clause-no
returns-then-not-branch-clause-no c =
    λ is. part_unread c.args.text.now c.loop-rest.rest.now _ c.split_at.result.1.now _ c.loop-rest.out.items 32 (cut_parts _ _ _ _ c.split_at.ensures.front c.split_at.ensures.back) (cut_whole c.loop-rest.rest.now _ _ 32 c.min.result c.min.ensures c.split_at.ensures.front c.split_at.ensures.back) c.loop-rest.invariant (c.in_ok-push_part.ensures.no (ap Ok c.if-not-branch.true))

pub loop-rest-preserved : goal.loop-rest-preserved
loop-rest-preserved c =
    more_read c.args.text.now c.loop-rest.rest.now _ _ c.args.out.now.items c.loop-rest.out.items _ (cut_parts _ _ _ _ c.split_at.ensures.front c.split_at.ensures.back) c.loop-rest.invariant (c.in_ok-push_part.ensures.yes (ap Ok c.if-not-branch.false))
