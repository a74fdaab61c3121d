use Rattle.zone_set.proofs.Common.{List, arith, subst, take, ℕ, ◌≡◌}
use Rattle.zone_name.specs.Common.{each_after}
use Rattle.zone_set.proofs.Hints.HintWalk.{nine_gathered}
use Rattle.zone_set.proofs.hint.nine_alone.Goals as goal

pub returns-then-digits-eq0 : goal.returns-then-digits-eq0
returns-then-digits-eq0 c =
    let ones = subst (λ l. (others : List ℕ) × (take 16 l ≡ each_after 1 others)) c.as_slice.ensures (c.are_ones.ensures c.if-not-are_ones.false) in
    nine_gathered c.args.octets.now c.told-octets ones c.if-last-ne1.false _ (omega (arith, c.three.ensures.digits, c.three-2.ensures.digits, c.three-3.ensures.digits)) c.if-digits-eq0.true
