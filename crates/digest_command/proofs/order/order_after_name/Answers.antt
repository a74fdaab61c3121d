use Rattle.std.proofs.Common.{List, subst}
use Rattle.std.specs.Prelude.{IfErr}
use Rattle.clap.specs.Words.{Text}
use Rattle.digest_command.specs.Order.{IsLineFault}
use Rattle.digest_command.proofs.order.order_after_name.Goals as goal

pub returns-clause-refused : goal.returns-clause-refused
returns-clause-refused c = subst (λ (ws : List Text). IfErr c.order_of.result (IsLineFault ws)) c.after_name.ensures c.order_of.ensures.refused
