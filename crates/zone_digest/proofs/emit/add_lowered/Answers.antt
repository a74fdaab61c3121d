use Rattle.std.proofs.Common.{arith, refl, ap, sym, map, ◌∙◌, ◌++◌, subst, append-nil, inr, ◌≡◌, []}
use Rattle.std.proofs.lemmas.List.{nil_from_length}
use Rattle.std.specs.List.{flat_map}
use Rattle.zone_rdata.specs.Lent.{record_of}
use Rattle.zone_digest.specs.Digest.{octets_with}
use Rattle.zone_digest.specs.Machine.Sets.{HasOctets}
use Rattle.zone_digest.proofs.Sets.{drained}
use Rattle.zone_digest.proofs.emit.add_lowered.Goals as goal

pub loop-octets-init : goal.loop-octets-init
loop-octets-init g c = (c.requires, λ m held. (m, held, refl))

pub loop-octets-preserved : goal.loop-octets-preserved
loop-octets-preserved g c = (
  λ octets has. c.loop-octets.invariant.0 octets (subst (λ keys. HasOctets keys octets) (sym c.in-Some.ensures.removal) (inr has)),
  λ m held. let so = c.loop-octets.invariant.1 m held in (
    so.0 ++ octets_with (record_of c.args.rr.now) c.in-Some.octets.items,
    subst (λ o. g.D.Digest.holds c.add_with.new.hasher (so.0 ++ octets_with (record_of c.args.rr.now) o)) c.as_slice.ensures.value (c.add_with.ensures so.0 so.1),
    drained (record_of c.args.rr.now) so.0 c.in-Some.octets c.loop-octets.left.keys c.pop_first.new.self.keys c.in-Some.ensures.removal ∙ so.2,
  ),
)

pub returns : goal.returns
returns g c m held = let so = c.loop-octets.invariant.1 m held in
    let none : c.loop-octets.left.keys ≡ [] = grind (arith, c.in_default.ensures, nil_from_length) in
    subst (g.D.Digest.holds c.loop-octets.hasher) (sym (append-nil so.0) ∙ ap (λ keys. so.0 ++ flat_map (octets_with (record_of c.args.rr.now)) (map (λ v. v.items) keys)) (sym none) ∙ so.2) so.1
