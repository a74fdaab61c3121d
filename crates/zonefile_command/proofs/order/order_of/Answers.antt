use Rattle.std.proofs.Common.{map, string_bytes}
use Rattle.zonefile_command.proofs.Ordering.{no_order}
use Rattle.zonefile_command.proofs.order.order_of.Goals as goal

pub returns-in_err-action-clause-refused : goal.returns-in_err-action-clause-refused
returns-in_err-action-clause-refused c =
    no_order (map string_bytes c.args.words.now) c.in_ok-call.call c.in_ok-call.ensures.called c.from_residual-in_err-action.result c.in_err-action.field-0.0 c.from_residual-in_err-action.ensures.1 c.in_err-action.ensures.refused

pub returns-clause-ordered : goal.returns-clause-ordered
returns-clause-ordered c =
    (c.in_ok-call.call, c.in_ok-call.ensures.called, (c.in_ok-action.ensures.asked, c.in_ok-directory.ensures))
