use Rattle.words_command.proofs.Common.{subst, List, IfErr, Text, IsLineFault}
use Rattle.words_command.proofs.order.order_after_name.Goals as goal

pub returns-clause-refused : goal.returns-clause-refused
returns-clause-refused c = subst (λ (ws : List Text). IfErr c.order_of.result (IsLineFault ws)) c.after_name.ensures c.order_of.ensures.refused
