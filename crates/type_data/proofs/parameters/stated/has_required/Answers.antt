use Rattle.type_data.proofs.Common.{AllByRecursion, ap, arith, both_ways, drop_more, false≢true, get_or, length, refl, subst, sym, ◌<◌, ◌∙◌}
use Rattle.type_data.proofs.OfParameters.Reading.{IsFound, required_back, required_stops}
use Rattle.type_data.proofs.parameters.stated.has_required.Goals as goal

pub returns-then-not-contains_key : goal.returns-then-not-contains_key
returns-then-not-contains_key c =
    let numbers = c.args.stated.now.required.items in
    let i = c.loop-number.number-index in
    let x = get_or c.as_slice-number-items.result.now i 0 in
    (λ t. absurd (both_ways _ refl t), λ each. absurd (required_stops (IsFound c.args.stated.now) numbers i x (omega (arith, c.loop-number-test.true, ap length c.as_slice-number-items.ensures.value)) (ap (λ t. get_or t i 0) c.as_slice-number-items.ensures.value) (λ found. false≢true (sym c.if-not-contains_key.true ∙ c.contains_key.ensures ∙ found)) (c.loop-number.invariant.1 each)))

pub loop-number-preserved : goal.loop-number-preserved
loop-number-preserved c =
    let numbers = c.args.stated.now.required.items in
    let i = c.loop-number.number-index in
    let x = get_or c.as_slice-number-items.result.now i 0 in
    let inside : i < length numbers = omega (arith, c.loop-number-test.true, ap length c.as_slice-number-items.ensures.value) in
    let at = ap (λ t. get_or t i 0) c.as_slice-number-items.ensures.value in
    (λ rest. c.loop-number.invariant.0 (required_back (IsFound c.args.stated.now) numbers i x inside at (sym c.contains_key.ensures ∙ c.if-not-contains_key.false) rest), λ each. (subst (AllByRecursion (IsFound c.args.stated.now)) (drop_more numbers i 0 inside) (c.loop-number.invariant.1 each)).1)
