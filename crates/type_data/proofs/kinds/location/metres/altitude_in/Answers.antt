use Rattle.type_data.proofs.Common.{Bool, ap, below, minus, refl, ◌++◌, ◌∙◌}
use Rattle.type_data.proofs.OfKinds.Location.Places.{altitude_above, none_above, none_below}
use Rattle.type_data.proofs.kinds.location.metres.altitude_in.Goals as goal

pub returns-in_default-clause-none : goal.returns-in_default-clause-none
returns-in_default-clause-none c = none_below c.args.text.now _ _ c.after_minus-below.ensures c.if-below.true c.in_default.ensures.none

pub returns-in_default-centimetres-clause-none : goal.returns-in_default-centimetres-clause-none
returns-in_default-centimetres-clause-none c = none_above c.args.text.now _ _ c.after_minus-below.ensures c.if-below.false c.in_default-centimetres.ensures.none

pub returns-in-Some-clause-found : goal.returns-in-Some-clause-found
returns-in-Some-clause-found c = below _ c.in-Some.depth (c.after_minus-below.ensures.parts ∙ ap (λ (b : Bool). minus b ++ c.after_minus-below.result.1.now) c.if-below.true) c.in-Some.ensures.found.0 c.in-Some.ensures.found.1 refl

pub returns-in-Some-centimetres-clause-found : goal.returns-in-Some-centimetres-clause-found
returns-in-Some-centimetres-clause-found c = altitude_above c.args.text.now _ _ c.in-Some-centimetres.height c.after_minus-below.ensures c.if-below.false c.in-Some-centimetres.ensures.found
