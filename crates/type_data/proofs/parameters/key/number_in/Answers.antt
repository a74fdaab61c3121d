use Rattle.type_data.proofs.Common.{IsKeyNumber, NothingIs, ap, arith, bytes_eq-Decides, sym, ◌∙◌}
use Rattle.std.proofs.Common.{decimal}
use Rattle.zone_rdata.proofs.Choices.{if_none_any}
use Rattle.type_data.proofs.OfParameters.Keys.{key_number_is, key_number_read}
use Rattle.type_data.proofs.parameters.key.number_in.Goals as goal

pub returns-in_err-number-clause-none : goal.returns-in_err-number-clause-none
returns-in_err-number-clause-none c = if_none_any c.from_residual.result (NothingIs (IsKeyNumber c.args.digits.now)) (λ a is. c.in_err-number.ensures.none a (key_number_is c.args.digits.now a is))

pub returns-then-number-ge65535-clause-none : goal.returns-then-number-ge65535-clause-none
returns-then-number-ge65535-clause-none c = λ a is. let same = key_number_read c.args.digits.now c.in_ok-number.number a c.in_ok-number.ensures.found is in omega (arith, is.1, c.if-number-ge65535.true)

pub returns-then-ne-clause-none : goal.returns-then-ne-clause-none
returns-then-ne-clause-none c = λ a is.
    let same = key_number_read c.args.digits.now c.in_ok-number.number a c.in_ok-number.ensures.found is in
    let equal = (bytes_eq-Decides c.as_bytes.result.now c.args.digits.now).1 (c.as_bytes.ensures.value ∙ c.format.ensures.text ∙ ap decimal same ∙ sym is.0) in
    let test = c.ne.ensures in
    let differs = c.if-ne.true in
    absurd (grind arith)
