use Rattle.zonenorm_c.specs.Expand.{unread}
use Rattle.zonenorm_c.proofs.expanding.reply_of.Goals as goal

pub returns-in-Err : goal.returns-in-Err
returns-in-Err c = unread c.in-Err.why c.in-Err.ensures.unread c.unread_reply.ensures
