use Rattle.zonenorm_c.proofs.Inputs.{halt_of_input}
use Rattle.zonenorm_c.proofs.comparing.halted_reply.Goals as goal

pub returns-clause-reports : goal.returns-clause-reports
returns-clause-reports c = halt_of_input c.args.halt _ _ _ c.halt_reply-reply.ensures
