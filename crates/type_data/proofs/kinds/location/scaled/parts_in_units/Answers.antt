use Rattle.type_data.proofs.Common.{ap₂, ℕ, ◌+◌}
use Rattle.type_data.proofs.OfKinds.Location.Scaled.{parts_found, parts_none}
use Rattle.type_data.proofs.kinds.location.scaled.parts_in_units.Goals as goal

pub returns-then-number-most-clause-found : goal.returns-then-number-most-clause-found
returns-then-number-most-clause-found c = parts_found c.args.front.now c.args.back.now c.args.places c.args.most c.in-Some.whole c.in-Some-decimal_of.part (c.in_units.result + c.in_units-2.result) c.requires.0 c.requires.1 c.if-back-places.false c.in-Some.ensures.found c.in-Some-decimal_of.ensures.found (ap₂ (λ (a b : ℕ). a + b) c.in_units.ensures.value c.in_units-2.ensures.value) c.if-number-most.true

pub returns-else-number-most-clause-none : goal.returns-else-number-most-clause-none
returns-else-number-most-clause-none c = parts_none c.args.front.now c.args.back.now c.args.places c.args.most c.in-Some.whole c.in-Some-decimal_of.part (c.in_units.result + c.in_units-2.result) c.requires.0 c.requires.1 c.if-back-places.false c.in-Some.ensures.found c.in-Some-decimal_of.ensures.found (ap₂ (λ (a b : ℕ). a + b) c.in_units.ensures.value c.in_units-2.ensures.value) c.if-number-most.false
