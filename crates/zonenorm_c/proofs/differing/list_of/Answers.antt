-- A record is listed, and the last that there is.
use Rattle.std.proofs.Common.{◌-◌, ◌^◌, refl, subst}
use Rattle.zone_difference.specs.Lacked.{AreNext}
use Rattle.zonenorm_c.proofs.Listing.{begins, ended, fewer_left, listed_one}
use Rattle.zonenorm_c.proofs.differing.list_of.Goals as goal

pub next-requires : goal.next-requires
next-requires c = let w = c.walk.invariant in (c.args.case, c.args.other.now.records, w.only, w.left)

pub walk-preserved : goal.walk-preserved
walk-preserved c =
    let w = c.walk.invariant in
    let others = c.args.other.now.records in
    listed_one (2 ^ 64 - 1) c.args.case c.args.form _ _ _ _ _ _ _ _ w c.in-Some.rr
    (subst (λ h. AreNext c.args.case others h c.next.new.self w.only) c.in-Some.is (c.in_ok-rr.ensures.taken c.args.case others w.only w.left))
    c.in_ok-push_record.ensures c.saturating_add-count.ensures

pub walk-smaller : goal.walk-smaller
walk-smaller c = fewer_left _ c.in-Some.rr c.walk.lacking c.next.new.self c.in-Some.is c.in_ok-rr.ensures.fewer

pub returns : goal.returns
returns c =
    let w = c.walk.invariant in
    let others = c.args.other.now.records in
    ended (2 ^ 64 - 1) c.args.case c.args.form _ _ c.walk.lacking c.next.new.self c.walk.text.items c.walk.text.items c.walk.count c.walk.count w
    (subst (λ h. AreNext c.args.case others h c.next.new.self w.only) c.in_default.is (c.in_ok-rr.ensures.taken c.args.case others w.only w.left))
