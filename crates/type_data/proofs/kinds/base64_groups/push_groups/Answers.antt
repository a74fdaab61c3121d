use Rattle.type_data.proofs.Common.{[], refl, ◌∷◌}
use Rattle.type_data.proofs.OfKinds.Base64.Groups.{eight_ahead, more_groups, no_groups, two_encoded}
use Rattle.type_data.proofs.kinds.base64_groups.push_groups.Goals as goal

pub loop-rest-init : goal.loop-rest-init
loop-rest-init c = no_groups c.args.text.now c.args.out.now.items

pub loop-rest-preserved : goal.loop-rest-preserved
loop-rest-preserved c =
    let one = c.in-Some in
    let two = c.in-Some-octets_of_group in
    more_groups c.args.text.now c.loop-rest.rest.now _ _ c.args.out.now.items c.loop-rest.out.items c.extend_from_slice.new.self.items (one.first ∷ one.second ∷ one.third ∷ two.fourth ∷ two.fifth ∷ two.sixth ∷ []) (eight_ahead c.loop-rest.rest.now 0 c.in-len8-up.len_at_least) refl
    (one.ensures.0.0, (one.ensures.0.1.0, (one.ensures.0.1.1.0, two.ensures.0)))
    (two_encoded _ _ _ _ _ _ _ _ one.first one.second one.third two.fourth two.fifth two.sixth one.ensures.1 two.ensures.1)
    c.in_ok-extend_from_slice.ensures.items c.loop-rest.invariant
