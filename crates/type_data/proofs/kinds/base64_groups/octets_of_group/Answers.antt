use Rattle.type_data.proofs.Common.{arith, refl}
use Rattle.type_data.proofs.OfKinds.Base64.Groups.{group_encoded}
use Rattle.type_data.proofs.kinds.base64_groups.octets_of_group.Goals as goal

pub returns : goal.returns
returns c =
    let a = c.digit_value-first in
    let b = c.digit_value-second in
    let d = c.digit_value-third in
    let e = c.digit_value-last in
    let p = c.if-first-gt63.false in
    let q = c.if-second-gt63.false in
    let r = c.if-third-gt63.false in
    let s = c.if-last-gt63.false in (
      (omega (arith, p, q), (omega (arith, q, r), (omega (arith, r, s), tt))),
      group_encoded c.args.first c.args.second c.args.third c.args.last a.result b.result d.result e.result _ _ _ c.ranges.first.fits c.ranges.second.fits c.ranges.third.fits c.ranges.last.fits a.ensures b.ensures d.ensures e.ensures (omega (arith, p)) (omega (arith, q)) (omega (arith, r)) (omega (arith, s)) refl refl refl,
    )
