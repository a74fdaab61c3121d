use Rattle.std.proofs.Common.{◌∙◌, inl, map, string_bytes, sym}
use Rattle.command_input.proofs.Origins.{no_order}
use Rattle.command_input.specs.Origin.{IsOriginText}
use Rattle.digest_command.specs.Order.{commands}
use Rattle.digest_command.proofs.order.order_of.Goals as goal

pub returns-in-verify-clause-ordered : goal.returns-in-verify-clause-ordered
returns-in-verify-clause-ordered c =
    (c.in_ok-call.call, c.in_ok-call.ensures.called, (sym c.command.ensures ∙ c.in-verify.is, (c.text.result.now, c.text.ensures, c.in_ok-origin_of-in-verify.ensures.ordered)))

pub returns-in_err-origin_of-in-verify-clause-refused : goal.returns-in_err-origin_of-in-verify-clause-refused
returns-in_err-origin_of-in-verify-clause-refused c =
    no_order commands IsOriginText (map string_bytes c.args.words.now) c.in_ok-call.call c.text.result.now c.in_ok-call.ensures.called
    (λ none. inl (c.text.result.now, c.text.ensures, none)) c.from_residual-in_err-origin_of-in-verify.result c.in_err-origin_of-in-verify.field-0.0 c.from_residual-in_err-origin_of-in-verify.ensures.1 c.in_err-origin_of-in-verify.ensures.refused

pub returns-in_err-origin-in-digest-clause-refused : goal.returns-in_err-origin-in-digest-clause-refused
returns-in_err-origin-in-digest-clause-refused c =
    no_order commands IsOriginText (map string_bytes c.args.words.now) c.in_ok-call.call c.text-in-digest.result.now c.in_ok-call.ensures.called
    (λ none. inl (c.text-in-digest.result.now, c.text-in-digest.ensures, none)) c.from_residual-in_err-origin-in-digest.result c.in_err-origin-in-digest.field-0.0 c.from_residual-in_err-origin-in-digest.ensures.1 c.in_err-origin-in-digest.ensures.refused

pub returns-in-digest-clause-ordered : goal.returns-in-digest-clause-ordered
returns-in-digest-clause-ordered c = (
  c.in_ok-call.call,
  c.in_ok-call.ensures.called,
  (
    sym c.command.ensures ∙ c.in-digest.is,
    (c.text-in-digest.result.now, c.text-in-digest.ensures, c.in_ok-origin-in-digest.ensures.ordered),
    (c.flag.result, c.flag.ensures, c.algorithm_of-algorithm.ensures),
    (c.flag-in-digest.result, c.flag-in-digest.ensures, c.notation_of.ensures),
  ),
)
