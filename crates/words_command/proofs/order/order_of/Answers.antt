use Rattle.words_command.proofs.Common.{◌∙◌, map, string_bytes, sym}
use Rattle.std.proofs.Common.{inl}
use Rattle.command_input.proofs.Origins.{no_order}
use Rattle.words_command.specs.Order.{IsOriginText, commands}
use Rattle.words_command.proofs.order.order_of.Goals as goal

pub returns-in-generic-clause-ordered : goal.returns-in-generic-clause-ordered
returns-in-generic-clause-ordered c =
    (c.in_ok-call.call, c.in_ok-call.ensures.called, (sym c.command.ensures ∙ c.in-generic.is, (c.text.result.now, c.text.ensures, c.in_ok-origin_of-in-generic.ensures.ordered)))

pub returns-in_err-origin_of-in-generic-clause-refused : goal.returns-in_err-origin_of-in-generic-clause-refused
returns-in_err-origin_of-in-generic-clause-refused c =
    no_order commands IsOriginText (map string_bytes c.args.words.now) c.in_ok-call.call c.text.result.now c.in_ok-call.ensures.called
    (λ none. inl (c.text.result.now, c.text.ensures, none)) c.from_residual-in_err-origin_of-in-generic.result c.in_err-origin_of-in-generic.field-0.0 c.from_residual-in_err-origin_of-in-generic.ensures.1 c.in_err-origin_of-in-generic.ensures.refused
