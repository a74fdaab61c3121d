use Rattle.zone_command.proofs.Common.{◌∙◌, ap, map, string_bytes, sym, Some, Text}
use Rattle.std.proofs.Common.{inl, inr}
use Rattle.command_input.proofs.Origins.{no_order}
use Rattle.command_input.specs.Origin.{IsOriginText}
use Rattle.zone_command.specs.Order.{commands}
use Rattle.zone_command.proofs.order.order_of.Goals as goal

pub returns-in-normalise-clause-ordered : goal.returns-in-normalise-clause-ordered
returns-in-normalise-clause-ordered c =
    (c.in_ok-call.call, c.in_ok-call.ensures.called, (sym c.command.ensures ∙ c.in-normalise.is, (c.text.result.now, c.text.ensures, c.in_ok-origin_of-in-normalise.ensures.ordered)))

pub returns-in_err-origin_of-in-normalise-clause-refused : goal.returns-in_err-origin_of-in-normalise-clause-refused
returns-in_err-origin_of-in-normalise-clause-refused c =
    no_order commands IsOriginText (map string_bytes c.args.words.now) c.in_ok-call.call c.text.result.now c.in_ok-call.ensures.called
    (λ none. inl (c.text.result.now, c.text.ensures, none)) c.from_residual-in_err-origin_of-in-normalise.result c.in_err-origin_of-in-normalise.field-0.0 c.from_residual-in_err-origin_of-in-normalise.ensures.1 c.in_err-origin_of-in-normalise.ensures.refused

pub returns-in-explain-clause-ordered : goal.returns-in-explain-clause-ordered
returns-in-explain-clause-ordered c =
    (c.in_ok-call.call, c.in_ok-call.ensures.called, (sym c.command.ensures ∙ c.in-explain.is, (c.text-in-explain.result.now, c.text-in-explain.ensures, c.in_ok-origin_of-in-explain.ensures.ordered)))

pub returns-in_err-origin_of-in-explain-clause-refused : goal.returns-in_err-origin_of-in-explain-clause-refused
returns-in_err-origin_of-in-explain-clause-refused c =
    no_order commands IsOriginText (map string_bytes c.args.words.now) c.in_ok-call.call c.text-in-explain.result.now c.in_ok-call.ensures.called
    (λ none. inl (c.text-in-explain.result.now, c.text-in-explain.ensures, none)) c.from_residual-in_err-origin_of-in-explain.result c.in_err-origin_of-in-explain.field-0.0 c.from_residual-in_err-origin_of-in-explain.ensures.1 c.in_err-origin_of-in-explain.ensures.refused

pub returns-in_err-first-in-compare-clause-refused : goal.returns-in_err-first-in-compare-clause-refused
returns-in_err-first-in-compare-clause-refused c =
    no_order commands IsOriginText (map string_bytes c.args.words.now) c.in_ok-call.call c.text-in-compare.result.now c.in_ok-call.ensures.called
    (λ none. inr (inl (c.text-in-compare.result.now, c.text-in-compare.ensures, none))) c.from_residual-in_err-first-in-compare.result c.in_err-first-in-compare.field-0.0 c.from_residual-in_err-first-in-compare.ensures.1 c.in_err-first-in-compare.ensures.refused

pub returns-in_err-second-in-compare-clause-refused : goal.returns-in_err-second-in-compare-clause-refused
returns-in_err-second-in-compare-clause-refused c =
    no_order commands IsOriginText (map string_bytes c.args.words.now) c.in_ok-call.call c.text-in-compare-2.result.now c.in_ok-call.ensures.called
    (λ none. inr (inr ((c.text-in-compare.result.now, c.text-in-compare.ensures, (c.in_ok-first-in-compare.first, c.in_ok-first-in-compare.ensures.ordered)), (c.text-in-compare-2.result.now, c.text-in-compare-2.ensures, none)))) c.from_residual-in_err-second-in-compare.result c.in_err-second-in-compare.field-0.0 c.from_residual-in_err-second-in-compare.ensures.1 c.in_err-second-in-compare.ensures.refused

pub returns-in-compare-clause-ordered : goal.returns-in-compare-clause-ordered
returns-in-compare-clause-ordered c = (
  c.in_ok-call.call,
  c.in_ok-call.ensures.called,
  (
    sym c.command.ensures ∙ c.in-compare.is,
    record { is_origin = (c.text-in-compare.result.now, c.text-in-compare.ensures, c.in_ok-first-in-compare.ensures.ordered); is_path = c.text-in-compare-3.ensures ∙ ap (λ (t : Text). Some t) (sym c.in_ok-from_str-in-compare.ensures.ok) },
    record { is_origin = (c.text-in-compare-2.result.now, c.text-in-compare-2.ensures, c.in_ok-second-in-compare.ensures.ordered); is_path = c.text-in-compare-4.ensures ∙ ap (λ (t : Text). Some t) (sym c.in_ok-from_str-in-compare-2.ensures.ok) },
  ),
)
