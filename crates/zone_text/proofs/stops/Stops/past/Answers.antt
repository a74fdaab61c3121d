use Rattle.std.proofs.Common.{◌/◌}
use Rattle.zone_text.proofs.Common.{ap, arith, drop, length, refl, subst, sym, ◌+◌, ◌-◌, ◌^◌, ◌∙◌, ◌≡◌}
use Rattle.zone_text.proofs.Scanning.StopMarks.{tells_after}
use Rattle.zone_text.specs.Machine.Stops.{Tells}
use Rattle.zone_text.proofs.stops.Stops.past.Goals as goal

pub returns : goal.returns
returns c =
    let octets = c.args.octets.now in
    let left = c.args.left.now in
    let more = length octets - length left - 1 in
    let known = length octets - c.args.self.unseen in
    let one_more : more + 1 ≡ length octets - length left = omega (arith, c.if-passed-eq0.false, c.if-octets-left.false) in
    let there : drop (more + 1) octets ≡ left = ap (λ n. drop n octets) one_more ∙ sym (c.requires.left (omega (arith, c.if-octets-left.false))) in
    subst (Tells (record { bits = c.args.self.bits / 2 ^ more / 2; unseen = c.args.self.unseen })) there
    (tells_after (record { bits = c.args.self.bits / 2 ^ more / 2; unseen = c.args.self.unseen }) octets known more c.args.self.bits c.requires.tells.bits (omega (arith, c.requires.tells.few)) (omega arith) (omega (arith, c.if-left-self.false, c.if-passed-eq0.false)) refl (omega (arith, c.requires.tells.within)))
